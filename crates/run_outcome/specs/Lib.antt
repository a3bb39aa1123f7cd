pub mod Row
pub mod Status
pub mod StatusText
pub mod World
