mod Building
pub mod BuildLaws
mod Gathered
mod Index
mod Reading
pub mod ReplayLaws
mod Slots
