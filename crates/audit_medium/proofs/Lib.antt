pub mod Comparing
pub mod OneAnswer
