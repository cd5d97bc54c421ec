pub mod Digits
pub mod Text
pub mod Room
pub mod Inner
