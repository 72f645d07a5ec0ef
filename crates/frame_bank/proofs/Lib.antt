pub mod Copies
mod Counted
pub mod Differing
pub mod Placing
pub mod Rising
pub mod Runs
pub mod Taking
