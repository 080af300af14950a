-- This file declares nothing. It exports the names that most proofs about collections use: the types and words of this crate, and words of other
-- crates for tables, positions and trees.
pub use Rattle.ic_any_collection.specs.declared.kind.Kind.{Kind}
pub use Rattle.ic_any_collection.specs.declared.gap.Gap.{Gap}
pub use Rattle.ic_any_collection.specs.declared.gap.Gap.TheVariants.{Front, Back, Before, After}
pub use Rattle.ic_any_collection.specs.declared.entry.Entry.{Entry}
pub use Rattle.ic_any_collection.specs.declared.unkeyed.Unkeyed.{Unkeyed}
pub use Rattle.ic_any_collection.specs.declared.any_table.AnyTable.{AnyTable}
pub use Rattle.ic_any_collection.specs.declared.any_collection.AnyCollection.{AnyCollection}
pub use Rattle.ic_any_collection.specs.declared.any_collection.AnyCollection.TheVariants.{Singly, Doubly, Xor, Tree}
pub use Rattle.ic_any_collection.specs.Kinds.{carries, has_before, has_pointer, is_list, is_singly, is_tree, is_two_way_list, is_xor, number_of}
pub use Rattle.ic_any_collection.specs.Entries.{tree_table_in, is_tree_linked, node, of_three, read, kind_of, is_linked, HasNeighbors, neighbors, successor, other}
pub use Rattle.ic_any_collection.specs.AnyTables.{table_in, covered_where_linked}
pub use Rattle.ic_any_collection.specs.AnyCollection.{Alike, Held, IsAt, IsCursorIn, IsXorAt, Keeps, RepresentsIn, cursor_in, kind_in, members_in}
pub use Rattle.ic_any_collection.specs.Gaps.{can_insert, can_remove, can_replace, from, is_after, beside, rests, onward, onto, IsGapAt, IsFrontOf}
pub use Rattle.ic_any_collection.specs.Edits.{AtGap, Empties, IsUnchanged, Leaves, Moves, Parts, Puts, PutsAll, Swaps, SwapsIfAny, Takes, TakesIfAny}
pub use Rattle.ic_any_collection.specs.GapEdits.{InsertsInGap, RemovesInGap}
pub use Rattle.ic_any_collection.specs.Keyed.{PutsInOrder, PutsAtKey, IsVacantFor}
pub use Rattle.ic_link_ops.specs.declared.link.Link.{Link}
pub use Rattle.ic_link_ops.specs.declared.rbtree.ThreeWords.{ThreeWords}
pub use Rattle.ic_link_ops.specs.declared.table.PlainTable.{PlainTable}
pub use Rattle.ic_link_ops.specs.ThreeWords.{node_of}
pub use Rattle.ic_link_ops.specs.Chains.{Ends, list_head, no_members, RepresentsChain}
pub use Rattle.ic_chain.specs.Standing.{IsValidAt}
pub use Rattle.ic_xor_linked_list.specs.Position.{PlaceAndNext, member_of, CachesNext}
pub use Rattle.ic_rbtree.specs.declared.tree.RBTree.{RBTree}
pub use Rattle.ic_rbtree.specs.Tree.{root_of}
pub use Rattle.ic_rbtree.specs.Ordered.{InsertsInOrder}
