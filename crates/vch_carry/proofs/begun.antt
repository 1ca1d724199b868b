pub mod Answered
pub mod Copied
pub mod SendBegins
pub mod RecvBegins
