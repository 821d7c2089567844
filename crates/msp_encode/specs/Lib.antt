pub mod Spelling
pub mod Spelled
pub mod Forms
pub mod Legality
pub mod Laws
