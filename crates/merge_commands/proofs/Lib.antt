mod Merged
pub mod MergeLaws
