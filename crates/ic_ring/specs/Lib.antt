pub mod Rings
pub mod Iter
pub mod RingCursors
pub mod RingEdits
pub mod Cursor
pub mod CursorMut
