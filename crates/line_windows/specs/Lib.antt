pub mod Table
pub mod Search
pub mod Frame
pub mod Ids
pub mod Carried
pub mod Inner
