pub mod MemoryLoad
