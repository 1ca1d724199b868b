pub mod OfTasks
pub mod Loops
pub mod Placing
pub mod CallsFound
