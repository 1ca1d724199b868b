pub mod AddedLines
pub mod AddedPasts
pub mod AddedRuns
