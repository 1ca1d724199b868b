pub mod IllegalHistories
pub mod Unwanted
pub mod IllegalRows
pub mod Unended
