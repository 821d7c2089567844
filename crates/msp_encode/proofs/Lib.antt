pub mod Codes
pub mod Cases
pub mod Spelled
pub mod Tests
