pub mod Among
pub mod Shares
pub mod SharedStep
