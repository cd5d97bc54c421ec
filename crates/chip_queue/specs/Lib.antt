pub mod Waiting
pub mod Queue
pub mod Good
