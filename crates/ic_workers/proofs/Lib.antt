pub mod OnlyClaims
pub mod Promised
pub mod Rows
pub mod Searching
pub mod TakenPlaces
pub mod Walking
