pub mod Codes
pub mod Extents
pub mod Frames
pub mod Kept
pub mod Memory
pub mod Stretches
pub mod VectorStreams
pub mod Walk
