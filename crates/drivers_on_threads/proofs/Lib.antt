pub mod SeatLaws
pub mod Sending
