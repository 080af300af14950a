pub mod TreeEnds
pub mod MovedChains
