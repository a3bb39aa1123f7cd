pub mod CastPhase
pub mod Closing
pub mod Ends
pub mod Gains
pub mod Replies
pub mod Tray
pub mod Union
