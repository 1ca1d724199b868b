pub mod Changing
pub mod Reading
pub mod Carried
pub mod Beginnings
pub mod Extracting
pub mod Telling
pub mod Reciting
