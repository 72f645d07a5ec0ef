pub mod Copying
pub mod Held
pub mod Ranges
pub mod Traces
