pub mod Cutting
pub mod Counting
pub mod Picking
pub mod Whole
