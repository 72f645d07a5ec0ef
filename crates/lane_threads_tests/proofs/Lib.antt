pub mod Calls
pub mod Knowing
pub mod Pages
pub mod Rounds
pub mod Starting
pub mod Table
pub mod TableCalls
