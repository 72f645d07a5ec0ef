pub mod Accessing
pub mod Walk
