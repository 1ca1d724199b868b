pub mod EachLine
pub mod LastPhase
pub mod LineSums
pub mod PhaseCounts
pub mod PhaseLines
