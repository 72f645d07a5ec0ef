pub mod Acting
pub mod ClosingLaws
pub mod Sending
pub mod Turning
