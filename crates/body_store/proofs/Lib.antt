mod CellPlaces
mod Filled
pub mod Keeping
mod Listed
mod Planning
mod Relaying
pub mod BallotSets
pub mod Blank
pub mod ByNumber
pub mod Images
pub mod Listings
pub mod Lookups
mod NewBallots
pub mod Numbers
pub mod Pieces
pub mod Spelled
