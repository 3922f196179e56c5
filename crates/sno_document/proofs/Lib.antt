pub mod JsonLemmas
pub mod TreeLemmas
pub mod FaultLemmas
pub mod PlaceLemmas
pub mod References
pub mod CycleLemmas
pub mod BookLemmas
pub mod DocumentLaw
pub mod LengthLemmas
pub mod RoundLemmas
mod BoundLemmas
