pub mod FromLogs
pub mod Leading
pub mod Logged
pub mod OneTurn
pub mod Ordering
pub mod Seams
pub mod Sides
