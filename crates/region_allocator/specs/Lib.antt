pub mod Regions
pub mod Refusals
pub mod Kept
pub mod Changes
pub mod Neighbors
