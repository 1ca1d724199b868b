pub mod Placing
pub mod Received
pub mod Sent
