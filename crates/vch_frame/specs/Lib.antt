pub mod Pairs
pub mod Indices
pub mod Releases
pub mod Claims
pub mod Tallies
pub mod Living
