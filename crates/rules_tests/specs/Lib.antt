pub mod AllMemory
