pub mod Contexts
pub mod Stacks
pub mod Returns
pub mod Entries
pub mod Leaving
