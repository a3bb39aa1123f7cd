mod Given
mod Numbers
pub mod Orders
mod Parses
mod Words
