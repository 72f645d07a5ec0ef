pub mod Pages
pub mod Scenario
