pub mod Worked
pub mod WorkedGroups
pub mod Lines
pub mod Cutting
pub mod Layouts
pub mod FirstVersion
