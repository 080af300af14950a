use Rattle.std.proofs.Common.{◌≡◌, List, length}
use Rattle.ic_link_ops.specs.Prelude.{Place, KeepsLinked, list_from}
use Rattle.ic_raw.specs.Singly.{Represents, lent_table}
use Rattle.ic_raw.specs.Words.{is_linked_one}
use Rattle.ic_raw_keyed.proofs.MovedChains.{SpreadsTo}
use Rattle.ic_raw_keyed.proofs.growth.spread.Given as goal

-- the members before `at` were moved to their buckets, and no place was linked or unlinked
abbrev pub invariant-loop-left : goal.invariant-loop-left
invariant-loop-left l = record {
  comes : (r : List Place) → Represents (lent_table l.fn.links) (list_from l.fn.front) r → SpreadsTo l.fn.hashes l.fn.links l.links l.fn.buckets l.buckets r l.at l.left;
  links : KeepsLinked is_linked_one (lent_table l.fn.links) (lent_table l.links);
  count : length l.buckets ≡ length l.fn.buckets;
}

abbrev pub decreases-loop-left : goal.decreases-loop-left
decreases-loop-left l = l.left
