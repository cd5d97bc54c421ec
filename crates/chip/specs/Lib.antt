pub mod State
pub mod Call
pub mod Change
pub mod Write
pub mod Read
pub mod Dot
pub mod Dots
pub mod Inner
