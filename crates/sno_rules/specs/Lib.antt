pub mod Lines
pub mod Rules
pub mod Spelling
pub mod Gives
pub mod RuleFiles
pub mod RuleFileGives
mod Examples
