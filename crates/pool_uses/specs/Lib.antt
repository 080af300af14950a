pub mod Slots
pub mod KeptSlots
pub mod Timers
pub mod KeptTimers
