pub mod lists
pub mod counts
pub mod events
pub mod runs
pub mod CallerLemmas
