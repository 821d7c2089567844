pub mod Members
pub mod GapLemmas
pub mod PlaceLemmas
pub mod NumberLemmas
pub mod PlacingLemmas
pub mod OrderlyPlaced
pub mod SettledLemmas
pub mod Examples
