pub mod Known
pub mod Causes
pub mod Memory
pub mod Steps
pub mod Numbered
pub mod Naming
pub mod Turns
pub mod Standard
