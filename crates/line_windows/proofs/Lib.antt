pub mod Search
pub mod Whole
pub mod Answers
pub mod Pixels
pub mod Belongs
pub mod Fields
pub mod Unique
