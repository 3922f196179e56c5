pub mod Attempts
pub mod Causes
pub mod Crossings
pub mod OpeningLemmas
pub mod Turns
pub mod Viewings
pub mod Worked
