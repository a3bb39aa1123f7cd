pub mod Counts
pub mod Finding
pub mod Leads
pub mod Pairing
pub mod State
pub mod TwinLaws
pub mod Views
