pub mod Pieces
pub mod Laws
pub mod Shapes
pub mod Source
pub mod Lines
pub mod Stores
