pub mod Generator
pub mod Scenario
pub mod Summary
pub mod Transfer
