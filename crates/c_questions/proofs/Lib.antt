pub mod InNumbers
pub mod Unique
