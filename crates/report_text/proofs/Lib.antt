pub mod Digits
pub mod Kept
pub mod Pairs
pub mod Rest
