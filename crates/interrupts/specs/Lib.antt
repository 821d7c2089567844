pub mod LineSets
pub mod Pushed
