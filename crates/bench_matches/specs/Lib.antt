pub mod Effects
pub mod Faults
