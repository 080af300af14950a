-- This file declares nothing, and it exports the lemmas that most proofs of collections cite: lemmas about places, sequences, walks and
-- tables that represent a list or a tree.
pub use Rattle.ic_link_ops.proofs.Chains.{chain_absent, chain_beside, chain_cut, chain_frame, chain_glue, chain_last, chain_one, last_between}
pub use Rattle.ic_link_ops.proofs.Clearing.{Releases, next_between, releases_all, releases_fewer, releases_more}
pub use Rattle.ic_link_ops.proofs.CollectionLaws.{IsKind, kept_represented, new_represents_nothing, one_sequence_is_represented, others_stay}
pub use Rattle.ic_link_ops.proofs.Each.{all_back, all_both, all_front, all_map, all_members, all_with, all_without}
pub use Rattle.ic_link_ops.proofs.EntryLemmas.{entry_read, entry_same, others_same}
pub use Rattle.ic_link_ops.proofs.PlacedEnds.{all_but_last, first_placed, last_placed}
pub use Rattle.ic_link_ops.proofs.PlacedValues.{all_beside, stand_beside, stand_put, vacant_absent, values_beside}
pub use Rattle.ic_link_ops.proofs.Positions.{gap_there, member_there, moves_back, moves_on, stands_by_gap, stands_first, stands_null, stands_on}
pub use Rattle.ic_link_ops.proofs.RepresentedLists.{before_gap, gap_after_linked, gap_linked, last_linked, next_linked, represents_middle, represents_one, represents_reversed}
pub use Rattle.ic_link_ops.proofs.RepresentedTrees.{holds_length, holds_linked, holds_once, holds_out, no_members, no_root, one_sequence, red_black_trees, represents_nothing, root_member}
pub use Rattle.ic_link_ops.proofs.SequenceLemmas.{absent_both, absent_left, absent_reverse, absent_right, absent_swap, absent_turned, absent_with, absent_without, beside_not, but_last_of_none, disjoint_both, disjoint_cons, disjoint_left, disjoint_nothing, disjoint_remove, disjoint_right, disjoint_sym, distinct_disjoint, distinct_insert, distinct_left, distinct_middle, distinct_remove, distinct_right, distinct_splice, fewer, first_is, first_not, first_of_back, first_or-append, gap_after, gap_not, last_not, last_of_front, last_of_push, last_or-append, last_some, member_split, none_not, nothing_first, nothing_last, same_gap, some_same, split_last, split_member}
pub use Rattle.ic_link_ops.proofs.StepLemmas.{each_unlinked, releases_append, unlinks_only}
pub use Rattle.ic_link_ops.proofs.Times.{absent_times, apart, distinct_times, one_at_other, one_at_self, times_absent, times_append, times_distinct, times_order, times_plug}
pub use Rattle.ic_link_ops.proofs.Walks.{few_places, is_end_no, is_end_not, is_end_yes, makes_progress, makes_progress_back, stretch_first, stretch_length, stretch_of, stretch_through, yields_placed, yields_placed_back}
pub use Rattle.ic_unsafe_ref.proofs.PlaceLemmas.{place_at_word, same_index, same_or_not, word_fits, word_tells}
pub use Rattle.ic_unsafe_ref.proofs.Placing.{Puts, exchanged_puts, gone_there, others_left, others_placed, placed_there, put_others, put_there, puts_other}
