pub mod Handed
pub mod SignalsInNumbers
pub mod Unique
