pub mod Begun
pub mod Building
pub mod Built
pub mod Chunks
pub mod Obeying
pub mod Pieces
pub mod Segmentation
pub mod Trace
