pub mod Filled
pub mod Ready
