pub mod ExitBegins
pub mod ExitWorks
