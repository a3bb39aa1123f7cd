mod Keys
mod Salts
mod Styles
mod Zips
mod Arrays
pub mod One
