pub mod Journals
pub mod Scenarios
