pub mod Move
pub mod After
pub mod Run
pub mod Walked
pub mod Round
pub mod Unique
