pub mod Elapsed
pub mod Histories
pub mod Moments
pub mod Record
pub mod Stops
pub mod TornBytes
