-- This file declares nothing, and it exports the names that most files of this crate use: the names of places, objects, sequences,
-- tables, positions and link steps.
pub use Rattle.ic_unsafe_ref.specs.declared.place.Place.{Place}
pub use Rattle.ic_unsafe_ref.specs.Places.{index_of, names_once, place_at, place_code, place_of, same_word, word_of}
pub use Rattle.ic_unsafe_ref.specs.Objects.{Frees, Objects, Places, at_indexes, is_placed, object_at, objects_code, with_object}
pub use Rattle.ic_link_ops.specs.Sequences.{Cut, IsAbsent, IsAfter, IsBefore, IsDisjoint, IsDistinct, IsMember, at_back, at_front, but_last, first, first_or, insert, join, last, last_or, remove, replace, splice}
pub use Rattle.ic_link_ops.specs.Tables.{ChangesOnly, ChangesOnlyIn, Exchanges, Extent, IsCovered, IsLinked, IsNameable, IsUnlinked, KeepsLinked, LinksAlso, Table, Unlinks, with_extent}
pub use Rattle.ic_link_ops.specs.Positions.{CursorState, HasMember, IsSecondAfter, IsValidCursor, MovesBack, MovesOn, RepresentsAt, object_there, site}
pub use Rattle.ic_link_ops.specs.PlacedObjects.{ArePlaced, RepresentsPlaced, StandAt, values_at}
pub use Rattle.ic_link_ops.specs.LinkSteps.{LinkStep, Makes, TraceIs, acquires, releases, releases_each}
