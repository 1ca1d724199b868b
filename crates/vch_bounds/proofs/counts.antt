pub mod Owned
pub mod Names
pub mod AnsweredLines
pub mod Rooms
