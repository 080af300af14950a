pub mod Answers
pub mod Cursor
pub mod CursorMut
pub mod CursorOwning
pub mod Edited
pub mod Ordered
