pub mod Find
pub mod Subtrees
pub mod Ends
pub mod SumCalls
pub mod Sums
pub mod Noting
pub mod Written
pub mod EditCalls
