pub mod Header
pub mod ReportLines
pub mod TextLines
pub mod Verdict
