pub mod Changes
pub mod Pointers
pub mod Walk
