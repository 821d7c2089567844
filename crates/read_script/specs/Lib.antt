pub mod Picked
pub mod Given
