pub mod Following
pub mod Header
pub mod Laws
