pub mod LeadLaws
pub mod Leads
pub mod Slots
pub mod Stops
pub mod Views
