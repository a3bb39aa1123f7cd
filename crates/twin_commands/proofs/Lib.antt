mod Again
mod Beginning
mod Behind
mod Both
mod Continuing
mod Handles
mod Moved
mod Pairing
mod Playing
mod Refused
mod Sides
mod Standing
pub mod TwinLaws
