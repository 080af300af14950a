pub mod Laws
pub mod Sorted
pub mod InsertionOrder
pub mod Runs
