pub mod Forms
pub mod Lists
pub mod Complete
pub mod Counts
pub mod Same
pub mod Retold
pub mod Sound
