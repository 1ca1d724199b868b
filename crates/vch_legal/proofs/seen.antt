pub mod SeenCalls
pub mod SeenHeld
pub mod SeenNames
pub mod SeenReleased
pub mod SeenSame
pub mod SeenTasks
pub mod SeenValues
