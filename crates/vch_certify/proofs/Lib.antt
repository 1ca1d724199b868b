pub mod Phases
pub mod TaskTotals
pub mod Verdicts
pub mod Apart
