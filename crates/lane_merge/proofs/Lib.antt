pub mod Cloned
pub mod Taking
