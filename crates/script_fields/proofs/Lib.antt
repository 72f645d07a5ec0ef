pub mod FirstPlaces
pub mod Makers
