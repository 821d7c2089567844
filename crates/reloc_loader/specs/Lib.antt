pub mod Sections
pub mod Loading
