pub mod Closing
pub mod Parked
pub mod Seated
pub mod Threads
