pub mod Walks
pub mod Others
pub mod WithoutWant
pub mod Rows
mod FullList
pub mod CallerLemmas
