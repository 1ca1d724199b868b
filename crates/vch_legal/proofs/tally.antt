pub mod Burdens
pub mod TallyKeeps
