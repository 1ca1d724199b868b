pub mod GivesUp
pub mod Dropped
pub mod Exits
