pub mod Ballots
pub mod Build
pub mod Index
pub mod Replay
pub mod Script
