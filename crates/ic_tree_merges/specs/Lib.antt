pub mod Merges
pub mod TwoTrees
pub mod Compares
pub mod Vines
