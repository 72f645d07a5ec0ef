pub mod Lends
pub mod Places
pub mod Queues
pub mod Schedule
pub mod Slots
