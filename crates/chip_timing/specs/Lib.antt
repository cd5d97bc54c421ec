pub mod Window
pub mod Signals
pub mod Move
pub mod Walk
