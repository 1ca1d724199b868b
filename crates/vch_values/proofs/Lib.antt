pub mod Keys
pub mod Rules
pub mod Records
pub mod Sums
pub mod Starts
pub mod CallerLemmas
