pub mod Merged
pub mod Parted
pub mod Hanging
pub mod MergedRuns
pub mod PartedRuns
pub mod MergedTrees
pub mod Keyed
