pub mod Counted
pub mod Ends
pub mod Kinds
pub mod Kept
pub mod Marks
pub mod Rows
pub mod Table
pub mod Trees
