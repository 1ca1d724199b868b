pub mod Begins
pub mod Places
pub mod Leaves
pub mod Forming
