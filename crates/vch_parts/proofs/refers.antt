pub mod Moved
pub mod Referring
pub mod Refers
pub mod RefersEvent
pub mod RefersNeeds
