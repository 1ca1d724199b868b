pub mod Formed
pub mod Changes
pub mod Recorded
pub mod Creates
pub mod Counts
pub mod Effects
pub mod Follows
pub mod Judged
