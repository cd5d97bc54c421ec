pub mod Blocks
pub mod Named
pub mod Kept
pub mod Store
pub mod Access
