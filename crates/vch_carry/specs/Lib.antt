pub mod Amounts
pub mod Carried
