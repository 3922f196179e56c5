pub mod ListingLemmas
pub mod JsonListingLemmas
pub mod TokenLemmas
