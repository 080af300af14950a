pub mod Cache
pub mod Lends
