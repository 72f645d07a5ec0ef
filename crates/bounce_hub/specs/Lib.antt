pub mod Growing
pub mod Opening
pub mod Pools
pub mod Seen
pub mod HubZones
