pub mod Steady
pub mod Places
pub mod Own
pub mod Guarded
pub mod Plain
pub mod Writes
