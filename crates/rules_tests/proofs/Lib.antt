pub mod AllMemory
pub mod Entries
