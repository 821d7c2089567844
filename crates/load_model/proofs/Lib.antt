pub mod Finding
mod WordLists
mod Imaging
pub mod AppRows
pub mod Registers
pub mod ExportRows
pub mod Settling
pub mod Apart
