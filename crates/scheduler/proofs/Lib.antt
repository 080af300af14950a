pub mod Keeping
pub mod Outcomes
pub mod Ticking
pub mod TimersDue
