pub mod Said
pub mod Called
pub mod Steps
pub mod GivesBack
pub mod Runs
pub mod Turning
