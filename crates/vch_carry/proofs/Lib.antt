pub mod amounts
pub mod glue
pub mod leaving
pub mod placed
pub mod begun
