pub mod lines
pub mod drafts
pub mod wholes
pub mod CallerLemmas
