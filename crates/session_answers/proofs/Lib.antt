pub mod Known
pub mod ToListing
pub mod Unique
