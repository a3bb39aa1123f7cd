pub mod Cells
pub mod Feeding
pub mod Kept
pub mod Page
pub mod Reaches
pub mod Reading
