pub mod Checked
pub mod Rechecks
pub mod Gone
pub mod RechecksEvent
