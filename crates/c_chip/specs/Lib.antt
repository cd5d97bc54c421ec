pub mod Calls
pub mod Reports
