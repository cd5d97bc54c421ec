pub mod Inner
pub mod Steps
