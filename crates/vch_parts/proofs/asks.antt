pub mod Ledger
pub mod LiveValue
pub mod Asks
pub mod AsksEvent
