pub mod Field
pub mod Place
pub mod Read
