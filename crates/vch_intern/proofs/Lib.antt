pub mod Indexes
pub mod Plays
pub mod CallerLemmas
