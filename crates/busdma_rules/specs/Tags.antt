pub mod LoadFlags
pub mod MemFlags
pub mod SyncOps
