pub mod CallerLemmas
pub mod Sums
pub mod Keeps
pub mod Shares
pub mod Joining
pub mod RuleLaws
