use Rattle.std.proofs.Common.{◌-◌, ◌≤◌, Option, List}
use Rattle.ic_unsafe_ref.specs.declared.place.Place.{Place}
use Rattle.ic_raw.specs.Tree.{lent_table}
use Rattle.ic_raw.specs.TreeShape.{IsSeen}
use Rattle.ic_raw_augmented.specs.Sums.{IsSummedBut, KeepsValues, is_from}
use Rattle.ic_raw_augmented.proofs.recompute.recompute_all.Given as goal

-- the sums are right at all members with an index below `index`
abbrev pub invariant-loop-index : goal.invariant-loop-index
invariant-loop-index l = record {
  right : (root : Option Place) (s : List Place) → IsSeen (lent_table l.fn.links) root s → IsSummedBut l.fn.kind (lent_table l.fn.links) l.sums s (is_from l.index);
  kept : KeepsValues l.fn.sums l.sums;
  in_bounds : l.index ≤ (lent_table l.fn.links).extent.places;
}

abbrev pub decreases-loop-index : goal.decreases-loop-index
decreases-loop-index l = (lent_table l.fn.links).extent.places - l.index
