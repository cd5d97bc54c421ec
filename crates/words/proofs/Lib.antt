pub mod Bytes
pub mod Channels
pub mod Unique
pub mod LowBits
