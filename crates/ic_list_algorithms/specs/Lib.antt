pub mod Asked
pub mod Counts
pub mod Effects
pub mod Ordered
pub mod Runs
pub mod Sifts
pub mod TwoLists
pub mod Walks
