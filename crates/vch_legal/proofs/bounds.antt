pub mod Bounds
pub mod ExitLeft
pub mod LeftBegins
pub mod LeftFrames
pub mod LeftMakes
pub mod LeftPlaces
pub mod LeftTasks
