mod ScriptExamples
pub mod ReadScripts
