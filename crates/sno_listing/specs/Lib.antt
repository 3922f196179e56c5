pub mod History
pub mod Listing
pub mod JsonListing
pub mod Tokens
pub mod Forms
