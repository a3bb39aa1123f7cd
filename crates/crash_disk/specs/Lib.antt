pub mod Calls
pub mod Figures
pub mod History
pub mod Recorded
pub mod MadeCalls
pub mod Notes
pub mod SeenIsImage
pub mod Stop
