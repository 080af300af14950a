use Rattle.std.proofs.Common.{◌≡◌, ◌-◌, Bool, true, Option, Some, None, List}
use Rattle.ic_unsafe_ref.specs.declared.place.Place.{Place}
use Rattle.ic_rbtree.specs.Closed.{IsClosed}
use Rattle.ic_raw.specs.Prelude.{also, has_place, seen, seen_node, IsSeen}
use Rattle.ic_raw.specs.Tree.{lent_table}
use Rattle.ic_raw_augmented.specs.Sums.{IsNear, IsSummedBut, KeepsValues, StaysBeside}
use Rattle.ic_raw_augmented.proofs.recompute.recompute_up.Given as goal

-- if the sums were wrong only at the first place of the way up, they are wrong only at the place of this turn
abbrev pub invariant-loop : goal.invariant-loop
invariant-loop l =
    let t = lent_table l.fn.links in
    record {
      inside : has_place t l.place ≡ true;
      near : IsNear t (67 - l.counter) l.place;
      right : (root : Option Place) (s : List Place) (but : Place → Bool) → IsSeen t root s → IsSummedBut l.fn.kind t l.fn.sums s (also (Some l.fn.place) but)
          → IsSummedBut l.fn.kind t l.sums s (also (Some l.place) but);
      kept : KeepsValues l.fn.sums l.sums;
      there : (S : Place → Bool) → IsClosed seen_node (seen t) None S → S l.fn.place ≡ true → S l.place ≡ true;
      beside : StaysBeside t l.fn.sums l.sums l.fn.place;
    }
