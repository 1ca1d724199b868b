pub mod Refuses
pub mod OwnCodes
