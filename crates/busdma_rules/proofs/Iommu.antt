pub mod Carrying
pub mod DeviceObeying
pub mod Entering
pub mod Members
pub mod Runs
pub mod SpaceLaws
