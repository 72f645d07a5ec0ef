pub mod FrameWalks
pub mod InFrames
