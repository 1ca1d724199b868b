pub mod CreateBegins
pub mod DropBegins
