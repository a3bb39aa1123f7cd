pub mod Beside
pub mod Checkpointed
pub mod Disks
