-- This file declares nothing. It exports what the proofs of functions cite: the lemmas of this crate, and the words that these proofs need.
pub use Rattle.std.proofs.Common.{◌∙◌, ap, refl, Some, [], ◌∷◌, ◌++◌, sym, List, length, ◌≡◌, Option, None, reverse, subst}
pub use Rattle.ic_link_ops.specs.Prelude.{Place, IsAbsent, Table, Cut, join, IsBefore, ChangesOnlyIn, TraceIs, releases_each}
pub use Rattle.ic_any_collection.specs.Prelude.{table_in, tree_table_in, members_in, root_of, node_of, node, Ends, list_head, PlaceAndNext, Entry, Xor, Keeps, IsAt, is_linked}
pub use Rattle.ic_any_collection.proofs.AllKinds.{distinct, singly_kind, doubly_kind, xor_kind, tree_kind, lawful, keeps_frame, held_of, one_sequence}
pub use Rattle.ic_any_collection.proofs.Reading.{leads_after, gap_at, same_place, other_place, walks_first, walks_next, walks_fewer, Walks, from, range_represented, if_listed, walk_count, lists_first, lists_all, lists_next, lists_stands, is_there, Lists}
pub use Rattle.ic_any_collection.proofs.OwnTrees.{to_own, of_field, placed_in, frame_in_field, trace_in_field}
pub use Rattle.ic_any_collection.proofs.Made.{singly_made, doubly_made, xor_made, tree_made, at_before, stands_plainly, next_known, at_null, xor_null, gap_after_cursor, gap_before_cursor, known}
pub use Rattle.ic_any_collection.proofs.Editing.{at_start, inserted_after, inserts, at_cursor, goes_on, goes_back, removed_before, removes, replaced_before, replaced_after, replaces, replaces_after, puts_all, parts, removes_there, stands_at_null, pops_front, pops_back, removes_after}
pub use Rattle.ic_any_collection.proofs.KeyedEdits.{found_member, put_stays, puts_and_stays, moves_to_key, puts_at_key, puts_and_goes, vacant_one, inserts_left, links_left}
