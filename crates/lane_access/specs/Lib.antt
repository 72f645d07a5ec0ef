pub mod Raw
pub mod Shares
pub mod Steps
