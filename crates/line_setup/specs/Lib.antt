pub mod Controls
pub mod Faults
