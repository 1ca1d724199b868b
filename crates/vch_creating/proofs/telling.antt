pub mod Others
pub mod Extracted
pub mod Recited
