pub mod forming
pub mod beginning
pub mod telling
pub mod placed
