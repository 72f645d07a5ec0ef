pub mod Extents
pub mod InFrames
pub mod Paged
pub mod Vectors
pub mod Walks
