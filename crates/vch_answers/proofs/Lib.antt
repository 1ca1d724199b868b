pub mod answered
pub mod named
pub mod CallerLemmas
