pub mod Front
pub mod Turns
pub mod Reading
pub mod Waits
pub mod Loop
pub mod Taken
pub mod Listed
