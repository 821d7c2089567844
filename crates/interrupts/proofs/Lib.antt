pub mod Members
pub mod Pairs
pub mod Pushes
pub mod Words
