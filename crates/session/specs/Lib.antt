pub mod Held
pub mod Record
pub mod Listing
pub mod Lent
pub mod Step
pub mod Done
pub mod Inner
