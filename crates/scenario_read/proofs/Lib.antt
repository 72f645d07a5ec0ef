pub mod Counting
pub mod Documents
pub mod Runs
