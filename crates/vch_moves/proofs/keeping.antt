pub mod Keeping
pub mod OneTask
pub mod Counts
pub mod Idle
pub mod Stepping
pub mod Between
pub mod SamePart
