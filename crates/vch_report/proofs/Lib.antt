pub mod words
pub mod items
pub mod wholes
pub mod from_core
pub mod CallerLemmas
