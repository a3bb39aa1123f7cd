pub mod Closing
pub mod Playing
pub mod Rows
pub mod Sequence
pub mod Withdrawals
