pub mod Searches
pub mod Rounds
