pub mod Keeping
pub mod Looks
pub mod OnePart
pub mod Opened
pub mod Recoveries
pub mod Seeking
pub mod Shares
pub mod SideBySide
