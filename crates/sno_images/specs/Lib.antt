pub mod Renumbering
pub mod Limits
