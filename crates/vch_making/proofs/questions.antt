pub mod Asks
pub mod AskedBy
pub mod Flights
pub mod Bounds
pub mod Previous
pub mod Loses
pub mod There
