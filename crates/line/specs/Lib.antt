pub mod Screen
pub mod Cells
pub mod Line
pub mod Request
pub mod Drawn
pub mod Inner
