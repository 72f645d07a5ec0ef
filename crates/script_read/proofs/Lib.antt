pub mod Clusters
pub mod Counting
pub mod Each
pub mod Hints
pub mod Loading
