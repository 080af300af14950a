pub mod PlaceWords
pub mod Places
pub mod Order
pub mod Objects
pub mod Lends
