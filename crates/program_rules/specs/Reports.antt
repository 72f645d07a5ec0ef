pub mod Answer
pub mod Did
pub mod Report
pub mod Text
pub mod Zone
