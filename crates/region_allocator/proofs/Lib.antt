pub mod Apart
pub mod Keeping
pub mod Joining
