pub mod Happening
pub mod OneRun
pub mod Possible
pub mod Runs
pub mod ScheduleEnds
pub mod ScheduleRuns
pub mod Turns
