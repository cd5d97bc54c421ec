pub mod Widening
pub mod Fitting
pub mod FormatListed
pub mod Samples
pub mod Bounds
pub mod Unique
