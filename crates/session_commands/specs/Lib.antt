pub mod Large
pub mod Session
