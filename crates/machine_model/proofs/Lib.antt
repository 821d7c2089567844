pub mod Examples
pub mod LegalForms
pub mod Written
pub mod Placing
pub mod Flags
pub mod Values
pub mod Contexts
