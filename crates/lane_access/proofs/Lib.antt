mod Bouncing
mod Copying
mod CpuWrites
pub mod DeviceReads
pub mod DeviceWrites
mod OwnExtents
pub mod OwnWrites
mod PutBack
mod RawAccesses
mod RawJudging
mod RawLoads
mod RawOwners
mod RawParts
pub mod RawPlaces
mod RawRuns
mod Repaging
mod Shares
pub mod Steps
mod Syncing
pub mod Unbounced
