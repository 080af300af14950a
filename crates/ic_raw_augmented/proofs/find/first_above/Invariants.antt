use Rattle.std.proofs.Common.{◌≡◌, ◌-◌, Bool, true, Option, Some, None}
use Rattle.ic_unsafe_ref.specs.declared.place.Place.{Place}
use Rattle.ic_rbtree.specs.Closed.{IsClosed}
use Rattle.ic_raw.specs.Seen.{has_place, seen, seen_node}
use Rattle.ic_raw.specs.Tree.{lent_table}
use Rattle.ic_raw_augmented.specs.Ends.{EndsAbove}
use Rattle.ic_raw_augmented.proofs.Searches.{FindsAbove}
use Rattle.ic_raw_augmented.proofs.find.first_above.Given as goal

-- a result that is right for the search from the place of this turn is right for the search from the first place
abbrev pub invariant-loop : goal.invariant-loop
invariant-loop l =
    let t = lent_table l.fn.links in
    record {
      inside : has_place t l.place ≡ true;
      found : (r : Option (Option Place)) → FindsAbove l.fn.kind t l.fn.sums l.place l.done l.fn.bound (67 - l.counter) r → FindsAbove l.fn.kind t l.fn.sums l.fn.place l.fn.done l.fn.bound 67 r;
      there : (S : Place → Bool) → IsClosed seen_node (seen t) None S → S l.fn.place ≡ true → S l.place ≡ true;
      led : EndsAbove t (Some l.place) → EndsAbove t (Some l.fn.place);
    }
