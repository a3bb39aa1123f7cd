pub mod Acknowledging
pub mod Each
