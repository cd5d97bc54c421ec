pub mod Slots
pub mod Order
pub mod Rule
pub mod Unique
