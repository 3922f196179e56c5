pub mod Lines
pub mod Shown
pub mod States
pub mod Store
pub mod Faults
