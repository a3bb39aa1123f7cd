pub mod Counted
pub mod Exported
pub mod Ranges
