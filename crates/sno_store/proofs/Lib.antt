pub mod Scans
pub mod Splits
pub mod Batches
pub mod Causes
pub mod Places
