pub mod Items
pub mod Loads
pub mod Ops
pub mod Rings
pub mod Script
pub mod Sends
