use Rattle.std.proofs.Common.{Option, List, drop}
use Rattle.ic_unsafe_ref.specs.declared.place.Place.{Place}
use Rattle.ic_raw.specs.Tree.{lent_table}
use Rattle.ic_raw.specs.TreeShape.{IsSeen}
use Rattle.ic_raw_augmented.specs.Sums.{IsSummedBut, KeepsValues}
use Rattle.ic_raw_augmented.specs.Written.{is_among}
use Rattle.ic_raw_augmented.proofs.recompute.recompute_written.Given as goal

-- the sums are right at all members except those recorded places from which the loop has not yet computed sums again
abbrev pub invariant-loop-word : goal.invariant-loop-word
invariant-loop-word l = record {
  right : (root : Option Place) (s : List Place) → IsSeen (lent_table l.fn.links) root s
      → IsSummedBut l.fn.kind (lent_table l.fn.links) l.fn.sums s (is_among l.fn.written.words)
      → IsSummedBut l.fn.kind (lent_table l.fn.links) l.sums s (is_among (drop l.word-index l.fn.written.words));
  kept : KeepsValues l.fn.sums l.sums;
}
