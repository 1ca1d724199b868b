pub mod Cases
pub mod Choices
pub mod FactsApart
pub mod Keeps
pub mod TaskKeeps
