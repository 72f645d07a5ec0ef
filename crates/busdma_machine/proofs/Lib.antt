pub mod Accounts
pub mod Sending
