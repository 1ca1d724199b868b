pub mod finding
pub mod CallerLemmas
