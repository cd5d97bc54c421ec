pub mod Told
pub mod Lists
pub mod Give
pub mod Answers
