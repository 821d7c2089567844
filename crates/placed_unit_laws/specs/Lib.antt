pub mod Placed
pub mod Checks
pub mod Ends
pub mod Given
