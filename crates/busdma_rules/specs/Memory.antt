pub mod BioFrames
pub mod Bios
pub mod Clusters
pub mod Extents
pub mod Memories
pub mod Translation
pub mod Vectors
