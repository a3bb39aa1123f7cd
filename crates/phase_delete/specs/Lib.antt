pub mod Closing
pub mod Ends
pub mod Gains
pub mod Replies
pub mod Stands
pub mod Tray
