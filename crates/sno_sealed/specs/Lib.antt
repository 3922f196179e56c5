pub mod Seals
pub mod Chains
pub mod Batches
pub mod Sealed
pub mod Tails
