pub mod Callback
pub mod Held
pub mod MapView
pub mod Pages
pub mod Parts
