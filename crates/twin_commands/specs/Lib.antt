pub mod Standing
pub mod Twin
