pub mod Plays
pub mod Several
