pub mod Histories
pub mod EachTotal
pub mod CoreReports
