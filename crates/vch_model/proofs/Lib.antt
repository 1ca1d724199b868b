pub mod worked
pub mod illegal
pub mod texts
pub mod LongQueue
pub mod Again
pub mod Same
pub mod Versions
pub mod Managed
