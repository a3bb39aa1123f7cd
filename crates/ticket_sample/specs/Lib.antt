pub mod Compared
pub mod Comparing
pub mod Drawing
pub mod Sample
pub mod Ticket
