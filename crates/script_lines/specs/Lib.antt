pub mod Generated
pub mod Line
pub mod Parts
pub mod Script
pub mod Words
