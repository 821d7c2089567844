pub mod Domains
pub mod Images
pub mod Standing
pub mod Loading
pub mod Laws
