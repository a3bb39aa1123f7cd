pub mod Foreign
pub mod Opening
pub mod Parted
pub mod PartedKept
pub mod Recovering
