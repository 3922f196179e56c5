pub mod Folders
pub mod Faults
