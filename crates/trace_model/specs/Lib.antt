pub mod Texts
pub mod Scripts
pub mod Grammar
pub mod Draws
pub mod ScriptLaws
