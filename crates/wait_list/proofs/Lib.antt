pub mod Completed
pub mod Rest
