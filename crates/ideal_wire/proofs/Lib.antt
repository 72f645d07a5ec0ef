pub mod Apart
pub mod Devices
pub mod Faithful
pub mod Laid
pub mod Loads
pub mod Obeys
pub mod Tags
