pub mod Facts
pub mod Laws
pub mod Waits
pub mod Wakings
