pub mod Merging
pub mod Union
pub mod UnionKept
