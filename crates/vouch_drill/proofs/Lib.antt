pub mod Slots
pub mod Both
