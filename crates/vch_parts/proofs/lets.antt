pub mod LetsGo
pub mod LetsGoEvent
