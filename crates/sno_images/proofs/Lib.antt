pub mod Renumbered
pub mod ImageNumbers
