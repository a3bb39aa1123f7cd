mod Again
mod Behind
mod Handling
mod Lifting
mod Opening
pub mod PartLaws
mod Standing
mod Together
