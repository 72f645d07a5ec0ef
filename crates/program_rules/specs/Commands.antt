pub mod Checks
pub mod Edges
pub mod ErrorLine
pub mod Judging
pub mod Keeps
pub mod ProgramCall
pub mod Runs
pub mod Words
