pub mod Entry
pub mod Shown
pub mod Gamma
