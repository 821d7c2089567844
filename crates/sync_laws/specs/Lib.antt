pub mod Laws
pub mod Waiters
pub mod Promises
