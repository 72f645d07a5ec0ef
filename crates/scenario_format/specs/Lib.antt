pub mod Json
pub mod Parts
pub mod Scenarios
pub mod Scripts
