pub mod SharedOut
pub mod Claimed
pub mod Parties
pub mod Doubles
