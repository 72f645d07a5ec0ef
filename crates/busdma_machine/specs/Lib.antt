pub mod Bounce
pub mod Each
pub mod Judging
pub mod Machine
pub mod Room
pub mod Runs
pub mod Tags
