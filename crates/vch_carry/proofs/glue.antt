pub mod Open
pub mod Runs
pub mod Places
pub mod Steps
pub mod Begun
