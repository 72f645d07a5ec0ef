pub mod FromLogs
pub mod Merged
pub mod Order
pub mod Runs
pub mod Sides
