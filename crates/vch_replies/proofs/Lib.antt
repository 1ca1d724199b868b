pub mod named
pub mod sums
pub mod known
pub mod calls
pub mod left
pub mod CallerLemmas
