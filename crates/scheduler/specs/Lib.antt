pub mod Timers
pub mod Schedule
pub mod Refusals
pub mod Kept
