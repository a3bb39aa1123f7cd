pub mod Filled
pub mod Versions
