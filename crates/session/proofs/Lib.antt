pub mod Asked
pub mod Rooms
pub mod Records
pub mod Stepping
pub mod Unique
