pub mod Equal
pub mod Names
pub mod Known
