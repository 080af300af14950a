pub mod KeepingSlots
pub mod KeepingTimers
