pub mod Paid
pub mod Open
pub mod Leaves
pub mod Makes
pub mod Works
pub mod Places
pub mod Begins
pub mod Events
