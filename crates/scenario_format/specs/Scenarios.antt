pub mod Driver
pub mod Frames
pub mod Order
pub mod Pages
pub mod Scenario
