pub mod FrameCounts
mod ListCounts
pub mod Rising
pub mod Runs
