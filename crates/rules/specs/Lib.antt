pub mod Rule
pub mod First
pub mod Lists
pub mod Each
pub mod Faults
pub mod Checked
pub mod Unique
