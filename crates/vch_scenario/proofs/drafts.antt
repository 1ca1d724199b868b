pub mod Steps
pub mod Fitting
pub mod Runs
pub mod Told
pub mod Formed
pub mod ItemRuns
pub mod Drafts
pub mod ItemBack
