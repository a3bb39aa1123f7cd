pub mod Handled
pub mod Part
pub mod Standing
