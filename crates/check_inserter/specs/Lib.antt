pub mod Fitting
pub mod Cells
pub mod Named
pub mod Places
