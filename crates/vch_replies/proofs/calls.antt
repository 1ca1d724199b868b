pub mod Named
pub mod Charged
pub mod Counted
pub mod Asserted
pub mod Alive
pub mod Sent
