-- This file declares nothing, and it exports the names that most contracts and proofs of collections use: the names of places,
-- objects, sequences, tables, positions, links, walks and edits.
pub use Rattle.ic_link_ops.specs.Chains.{Ends, IsStretch, ListHead, RepresentsChain, RepresentsSomeChain, TurnsEnds, empty_list, end_of, list_head, no_members}
pub use Rattle.ic_link_ops.specs.Edits.{Inserts, Removes, Replaces, Splices, Splits}
pub use Rattle.ic_link_ops.specs.EditsAt.{InsertsBeside, RemovesNext, RemovesThere, ReplacesNext, ReplacesThere, SplicesBeside, SplitsAfter, SplitsBefore, WhereApart}
pub use Rattle.ic_link_ops.specs.LinkSteps.{LinkStep, Makes, TraceIs, acquires, releases, releases_each}
pub use Rattle.ic_link_ops.specs.LinkedList.{IsBetween, Neighbors, members_between, neighbors_at}
pub use Rattle.ic_link_ops.specs.Links.{link_of, words_of}
pub use Rattle.ic_link_ops.specs.PlacedObjects.{ArePlaced, RepresentsPlaced, StandAt, values_at}
pub use Rattle.ic_link_ops.specs.PlainTables.{entries, entry_at, linked_by, table, table_beside, table_of, table_with, values_beside}
pub use Rattle.ic_link_ops.specs.Positions.{CursorState, HasMember, IsSecondAfter, IsValidCursor, MovesBack, MovesOn, RepresentsAt, object_there, site}
pub use Rattle.ic_link_ops.specs.RedBlackTree.{Holds, IsTree, Node, RepresentsEnds, node_at}
pub use Rattle.ic_link_ops.specs.Sequences.{Cut, IsAbsent, IsAfter, IsBefore, IsDisjoint, IsDistinct, IsMember, at_back, at_front, but_last, first, first_or, insert, join, last, last_or, remove, replace, splice}
pub use Rattle.ic_link_ops.specs.Shape.{IsEven, IsRight, NoRedPair, blacks, top_color, weight}
pub use Rattle.ic_link_ops.specs.SinglyLinkedList.{Front, IsFollowed, Successor, list_from, members_from, successor_at}
pub use Rattle.ic_link_ops.specs.Tables.{ChangesOnly, ChangesOnlyIn, Exchanges, Extent, IsCovered, IsLinked, IsNameable, IsUnlinked, KeepsLinked, LinksAlso, Table, Unlinks, with_extent}
pub use Rattle.ic_link_ops.specs.ThreeWords.{has_link, node_of}
pub use Rattle.ic_link_ops.specs.Times.{one_at, times, times_around, times_in}
pub use Rattle.ic_link_ops.specs.Trees.{Tree, fork, in_order, leaf, top}
pub use Rattle.ic_link_ops.specs.Walk.{GivesFirst, GivesLast, is_end, walked}
pub use Rattle.ic_link_ops.specs.Widths.{HasRoom, Width, nameable, nameable_has_room, narrow, wide}
pub use Rattle.ic_unsafe_ref.specs.Objects.{Frees, Objects, Places, at_indexes, is_placed, object_at, objects_code, with_object}
pub use Rattle.ic_unsafe_ref.specs.Places.{index_of, names_once, place_at, place_code, place_of, same_word, word_of}
pub use Rattle.ic_unsafe_ref.specs.declared.place.Place.{Place}
