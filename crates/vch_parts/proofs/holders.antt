pub mod Stable
pub mod Held
pub mod Unused
