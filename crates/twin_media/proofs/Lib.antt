pub mod Apart
pub mod Calls
pub mod Kept
pub mod Pairs
