pub mod FewNames
pub mod Repeated
pub mod Groups
pub mod Written
