mod Answered
pub mod EndedLines
pub mod FirstLine
mod Pieces
pub mod Reading
pub mod Readings
pub mod TakenLines
pub mod Told
mod Windows
pub mod Written
