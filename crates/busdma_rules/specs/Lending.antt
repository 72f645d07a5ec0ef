pub mod Access
pub mod Loans
pub mod SyncEffects
