pub mod Performing
pub mod Replying
