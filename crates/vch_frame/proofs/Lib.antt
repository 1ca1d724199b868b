pub mod Cases
pub mod Pairs
pub mod Keys
pub mod Room
pub mod Entries
pub mod Tasks
pub mod Runs
pub mod CallerLemmas
