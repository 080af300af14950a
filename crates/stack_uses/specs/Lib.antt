pub mod Mail
pub mod Frees
pub mod Delivery
