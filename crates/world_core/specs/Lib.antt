pub mod Ideal
pub mod Kept
pub mod Wanting
pub mod Wires
