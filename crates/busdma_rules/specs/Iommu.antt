pub mod Device
pub mod Space
