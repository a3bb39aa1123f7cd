pub mod Ballots
mod Brief
pub mod Decimals
pub mod Forms
pub mod GeneratedBallots
pub mod Left
pub mod LineEnds
pub mod Meanings
pub mod Numbers
pub mod Places
pub mod Saying
pub mod Script
