pub mod Ends
pub mod EndsCalls
pub mod Growth
pub mod GrowthCalls
pub mod Spreading
