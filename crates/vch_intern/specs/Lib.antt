pub mod Tags
pub mod Played
