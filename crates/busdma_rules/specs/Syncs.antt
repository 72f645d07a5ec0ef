pub mod ChunkTraces
pub mod Positions
