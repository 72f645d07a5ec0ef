pub mod Tag
pub mod TagFlags
