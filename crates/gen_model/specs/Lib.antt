pub mod Draws
pub mod Blocks
pub mod Generated
pub mod Laws
