pub mod Steps
pub mod Summed
