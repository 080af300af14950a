-- This file declares nothing. It exports the names that most proofs about the calls for C use.
pub use Rattle.ic_raw.specs.Answers.{IsAccepted, IsFound, IsStatus, refusal}
pub use Rattle.ic_raw.specs.Doubly.{end_on, ends_of, gap_from, prev_from}
pub use Rattle.ic_raw.specs.Gaps.{IsApart, IsBeside, IsNoneOrLinked, PutIn, TakenOut, before, gap_between, gap_of, outermost, toward}
pub use Rattle.ic_raw.specs.Hash.{HoldsChains, bucket_at, chain_of, has_key, slot_of}
pub use Rattle.ic_raw.specs.Keys.{against, key_of, keys_fault}
pub use Rattle.ic_raw.specs.LinkWords.{LinkWords, narrow_words, neighbors, wide_words}
pub use Rattle.ic_raw.specs.MarkedTree.{marked_entries, marked_table}
pub use Rattle.ic_raw.specs.Ring.{AreLinked, IsCircle, Makes, MakesTwo, put_in}
pub use Rattle.ic_raw.specs.Seen.{HandsOutReached, KeepsMarks, NamesWithin, StepEndsIn, also, has_place, seen, seen_node}
pub use Rattle.ic_raw.specs.Singly.{front_of, list_of, successor, word_of_front}
pub use Rattle.ic_raw.specs.Sorting.{is_less}
pub use Rattle.ic_raw.specs.Tables.{IsFree, member_fault, nameable_table, place_fault, raw_entries, raw_table}
pub use Rattle.ic_raw.specs.Touches.{Touches, sides}
pub use Rattle.ic_raw.specs.Tree.{IsInsertPos, RepresentsTree, fault_of, node, root_in}
pub use Rattle.ic_raw.specs.TreeShape.{IsSeen}
pub use Rattle.ic_raw.specs.Words.{HasNumber, is_linked_one, is_linked_three, is_linked_two, no_tree_words, no_word, no_words, number_in, place_in, place_of}
pub use Rattle.ic_raw.specs.Xor.{HasNeighbors, beyond, other}
