pub mod ClosingLaws
pub mod Logging
pub mod Passing
pub mod SeatedLaws
pub mod Sending
