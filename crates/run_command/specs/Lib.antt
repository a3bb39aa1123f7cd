pub mod Command
pub mod ElectionText
pub mod Outcome
