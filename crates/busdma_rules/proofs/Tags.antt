pub mod Choices
pub mod Effective
pub mod Powers
