pub mod Renewal
pub mod Unused
