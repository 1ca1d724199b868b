pub mod Input
pub mod Commands
pub mod Lines
pub mod Loads
pub mod TwoTexts
pub mod Judged
pub mod Reports
pub mod Run
