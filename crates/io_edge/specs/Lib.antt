pub mod Faults
pub mod Reading
pub mod Writing
pub mod Calls
pub mod MemSource
pub mod MemSink
pub mod Stream
pub mod Pieces
