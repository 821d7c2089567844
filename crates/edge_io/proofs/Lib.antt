pub mod Progress
pub mod Maps
pub mod Entries
