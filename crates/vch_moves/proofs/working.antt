pub mod Given
pub mod Related
pub mod Formed
