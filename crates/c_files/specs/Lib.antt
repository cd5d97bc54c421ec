pub mod CallsOfC
