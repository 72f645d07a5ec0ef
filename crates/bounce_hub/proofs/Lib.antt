mod Agreeing
mod Answering
mod Counting
mod Creating
mod Deferrals
mod Frames
mod Keeping
mod Mapping
mod Nested
mod OpeningLaws
mod Owing
mod Placing
mod Promises
pub mod Sending
mod ZoneGrowth
