pub mod Sending
pub mod Shapes
pub mod Working
