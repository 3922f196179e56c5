pub mod Limits
pub mod InThreads
pub mod Editing
pub mod Lists
pub mod Texts
pub mod Owners
pub mod Leftovers
