pub mod Rests
pub mod Counting
pub mod Sounding
pub mod Whole
