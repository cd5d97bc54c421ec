pub mod Tags
pub mod Parts
pub mod Faults
pub mod RecordAt
