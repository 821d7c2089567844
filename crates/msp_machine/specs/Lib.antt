pub mod Fetch
