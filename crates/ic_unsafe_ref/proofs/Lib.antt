pub mod PlaceLemmas
pub mod OrderLemmas
pub mod ObjectLemmas
pub mod Placing
pub mod IndexLemmas
pub mod Counting
