pub mod Beside
pub mod Found
mod Numbers
mod Playing
mod Ready
pub mod Shares
mod Stages
mod Teamed
mod Told
