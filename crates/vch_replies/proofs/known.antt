pub mod Equal
pub mod Known
