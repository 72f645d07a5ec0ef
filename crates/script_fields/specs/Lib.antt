pub mod Counts
pub mod NamedOps
