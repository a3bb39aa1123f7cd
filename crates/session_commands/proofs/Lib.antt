mod Generating
pub mod LargeLaws
pub mod SessionLaws
