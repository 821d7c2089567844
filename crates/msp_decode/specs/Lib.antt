pub mod Reading
pub mod At
pub mod Laws
pub mod Function
