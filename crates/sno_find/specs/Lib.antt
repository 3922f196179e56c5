pub mod Faults
pub mod Hits
pub mod Feeds
pub mod Findings
pub mod Lines
pub mod Json
pub mod EditRows
pub mod Examples
