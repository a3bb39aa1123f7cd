mod AllParts
mod Joining
mod Lifting
pub mod Opened
mod Slots
mod Stepping
