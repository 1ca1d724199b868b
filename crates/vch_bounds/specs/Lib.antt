pub mod Sums
pub mod Owned
pub mod Rooms
pub mod Spent
pub mod Bounded
