pub mod Readiness
