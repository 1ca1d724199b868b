pub mod Assertions
pub mod CallerLemmas
pub mod Counting
pub mod Following
pub mod Live
pub mod Passing
pub mod Tasks
