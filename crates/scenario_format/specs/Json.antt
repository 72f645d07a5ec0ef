pub mod DocumentPlaces
pub mod Field
pub mod Items
pub mod Number
pub mod Read
pub mod RefusalText
pub mod Text
