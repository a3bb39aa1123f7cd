pub mod Filling
pub mod OldOrNew
pub mod Pages
pub mod Renewing
pub mod Starting
pub mod TwoBanks
pub mod Unused
