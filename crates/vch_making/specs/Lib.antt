pub mod Refused
pub mod Given
pub mod Asked
pub mod Answers
