pub mod DevicePages
