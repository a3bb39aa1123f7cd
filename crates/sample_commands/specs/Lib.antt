pub mod Asked
pub mod Compare
pub mod Looked
pub mod Sample
