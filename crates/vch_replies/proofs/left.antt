pub mod DueSet
pub mod Recounted
pub mod Paid
