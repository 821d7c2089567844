pub mod Anys
pub mod Questions
pub mod WordKinds
pub mod Reading
pub mod Startings
pub mod Firsts
pub mod Faulty
