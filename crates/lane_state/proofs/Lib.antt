pub mod Awaiting
pub mod Bytes
pub mod Called
pub mod ChangeLaws
pub mod CoveredLaws
pub mod Devices
pub mod Doors
mod Earlier
mod Finding
pub mod Following
mod Foreign
pub mod HeldMemory
pub mod IdlePages
pub mod Keeping
pub mod Lenders
pub mod LoadJudged
pub mod LoadStreams
pub mod Lying
pub mod MapTables
pub mod MapValues
pub mod MarkedMemory
pub mod Marks
mod Nowhere
pub mod OfMaps
pub mod OperationSteps
pub mod OwnBytes
pub mod OwnRuns
mod PagesLent
pub mod Places
pub mod Preparing
pub mod Reaching
pub mod Reading
pub mod ReturnSteps
pub mod Returned
pub mod Spaces
pub mod TakenLoads
pub mod Unloaded
pub mod Views
pub mod WireBytes
