pub mod Bounds
pub mod Flags
pub mod Matches
pub mod Numerals
pub mod Reading
