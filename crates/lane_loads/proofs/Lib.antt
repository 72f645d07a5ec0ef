mod Asked
mod AwaitedLoads
mod CalledLoads
mod Chunked
mod DevicePages
mod DeviceStreams
mod EndedRuns
mod EndedWaits
mod LoadSteps
pub mod Loaded
mod OwnLoads
mod UnloadSteps
