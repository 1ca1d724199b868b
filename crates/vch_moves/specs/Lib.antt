pub mod Known
pub mod Desks
pub mod Kept
pub mod Shares
pub mod Steps
pub mod Works
pub mod Moments
