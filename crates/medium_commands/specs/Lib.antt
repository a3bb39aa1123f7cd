pub mod Audit
pub mod Init
pub mod Refused
pub mod Several
