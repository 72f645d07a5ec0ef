pub mod Commands
pub mod Reports
pub mod Storms
pub mod Verdicts
