use Rattle.std.proofs.Common.{List}
use Rattle.ic_link_ops.specs.Prelude.{Place, KeepsLinked, list_from}
use Rattle.ic_raw.specs.Singly.{Represents, lent_table}
use Rattle.ic_raw.specs.Words.{is_linked_one}
use Rattle.ic_raw_keyed.proofs.MovedChains.{Reverses}
use Rattle.ic_raw_keyed.proofs.growth.reverse.Given as goal

-- the members before `at` are reversed, and no place was linked or unlinked
abbrev pub invariant-loop-left : goal.invariant-loop-left
invariant-loop-left l = record {
  comes : (s : List Place) → Represents (lent_table l.fn.links) (list_from l.fn.front) s → Reverses (lent_table l.fn.links) (lent_table l.links) s l.back l.at l.left;
  links : KeepsLinked is_linked_one (lent_table l.fn.links) (lent_table l.links);
}

abbrev pub decreases-loop-left : goal.decreases-loop-left
decreases-loop-left l = l.left
