pub mod Held
pub mod Left
pub mod Opened
pub mod Sessions
pub mod Trays
pub mod Whole
