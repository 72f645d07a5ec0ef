pub mod Building
pub mod Built
pub mod Conditions
pub mod Cutting
pub mod Joining
pub mod Streams
