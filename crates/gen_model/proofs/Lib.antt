pub mod Sizes
pub mod Formed
mod Examples
