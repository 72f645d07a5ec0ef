pub mod Bio
pub mod Frames
pub mod Kinds
