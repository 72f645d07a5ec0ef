pub mod Extents
pub mod Parts
pub mod Placing
pub mod Stepping
pub mod TraceLaws
