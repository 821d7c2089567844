pub mod Cutting
pub mod Capping
pub mod Defining
pub mod Listing
pub mod Lining
