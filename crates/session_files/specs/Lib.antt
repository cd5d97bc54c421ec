pub mod Outputs
pub mod Steps
pub mod Calls
pub mod Good
pub mod Ends
pub mod Faults
