pub mod PlacedChains
pub mod Rings
mod Trees
