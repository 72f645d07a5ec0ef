pub mod Beside
pub mod Serving
