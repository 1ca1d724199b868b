pub mod KeyCases
pub mod Entered
pub mod Elsewhere
pub mod Maps
