pub mod Calls
pub mod Closing
pub mod Object
pub mod Outlasting
pub mod PassDoor
