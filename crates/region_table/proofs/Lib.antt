pub mod BitLemmas
pub mod ListLemmas
pub mod PlaceLemmas
pub mod SettledLemmas
