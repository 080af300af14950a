pub mod Circles
pub mod OtherRings
pub mod JoinedRings
pub mod RingWalks
pub mod Clearance
pub mod CursorPlaces
pub mod Turning
