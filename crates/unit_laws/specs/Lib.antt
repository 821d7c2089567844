pub mod Running
pub mod Lines
pub mod Guards
pub mod Frame
pub mod Guarded
pub mod Rows
pub mod Groups
