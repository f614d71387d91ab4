pub mod Common
pub mod LineForms
pub mod Rows
pub mod Script
pub mod ScriptDrafts
pub mod ScriptFields
pub mod ScriptJudged
pub mod ScriptLines
pub mod ScriptPlans
pub mod ScriptSplitting
pub mod ScriptStages
mod ScriptWorked
pub mod Spelling
