pub mod After
pub mod Agreement
pub mod OwnShare
pub mod View
