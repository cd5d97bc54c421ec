pub mod Decode
pub mod Kept
pub mod Unique
pub mod Defined
pub mod EntryBits
