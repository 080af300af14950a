pub mod Refusals
pub mod Pooled
pub mod Lends
