pub mod Keyed
pub mod Kept
pub mod Lends
pub mod Refusals
pub mod Tests
