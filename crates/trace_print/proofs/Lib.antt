pub mod WriteLemmas
pub mod Copying
pub mod Following
