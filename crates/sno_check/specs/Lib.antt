pub mod Reports
pub mod Limits
