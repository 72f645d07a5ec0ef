pub mod AcceptedLaws
pub mod AnsweredLoads
pub mod AnsweredTurns
pub mod ChunkExtents
pub mod DeviceLoads
pub mod MemoryChunks
pub mod MemoryObeys
