pub mod Standing
pub mod Following
pub mod Reading
pub mod CallerLemmas
