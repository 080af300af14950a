pub mod Dealing
pub mod Pool
pub mod RaceLemmas
pub mod Retaining
pub mod Rounds
pub mod SharedJobs
