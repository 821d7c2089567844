pub mod Clearing
pub mod Lists
pub mod Places
pub mod Linking
