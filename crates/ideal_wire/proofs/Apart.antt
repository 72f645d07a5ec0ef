pub mod Frames
pub mod Held
pub mod NewFrames
pub mod PageTwins
pub mod Pages
pub mod PagesAlone
pub mod ReachedOnce
pub mod Returning
