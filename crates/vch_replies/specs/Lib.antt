pub mod Told
pub mod Begins
pub mod Replied
pub mod Known
pub mod Left
