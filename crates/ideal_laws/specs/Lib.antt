pub mod Deferrals
pub mod KnownBytes
pub mod LastWrites
pub mod LoadRuns
pub mod Posts
pub mod RawReached
pub mod Refusals
