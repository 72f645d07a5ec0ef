pub mod Coming
pub mod Filling
pub mod Going
pub mod Reaching
pub mod Runs
