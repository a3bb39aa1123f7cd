pub mod Canonical
pub mod Differing
pub mod Faults
pub mod Media
pub mod ReadsOnly
pub mod Refused
