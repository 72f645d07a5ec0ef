pub mod Knowing
pub mod Passes
