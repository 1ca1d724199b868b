pub mod Follow
pub mod Needs
