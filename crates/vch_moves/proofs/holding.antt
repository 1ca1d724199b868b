pub mod Different
pub mod Items
pub mod Vouchers
pub mod InTasks
