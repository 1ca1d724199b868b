pub mod Sums
pub mod Spread
pub mod LiveSums
