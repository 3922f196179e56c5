pub mod Assignments
pub mod Opening
