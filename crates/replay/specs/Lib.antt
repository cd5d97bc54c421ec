pub mod Run
pub mod Inner
pub mod Runs
