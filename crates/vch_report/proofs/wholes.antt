pub mod Same
pub mod Runs
pub mod Wholes
pub mod Loops
pub mod CopyLoops
