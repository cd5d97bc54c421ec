pub mod Blocks
pub mod Naming
pub mod Kept
pub mod Store
pub mod Map
pub mod Fields
pub mod Apart
pub mod Unique
