pub mod FrameBank
pub mod Frames
