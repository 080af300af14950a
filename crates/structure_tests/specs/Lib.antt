pub mod Jobs
pub mod OfEight
pub mod TwoRings
