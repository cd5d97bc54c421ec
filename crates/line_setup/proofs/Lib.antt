pub mod Lengths
pub mod Fitted
pub mod KeptFields
pub mod ControlFields
pub mod LineFits
pub mod Unique
