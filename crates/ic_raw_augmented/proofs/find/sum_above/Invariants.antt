use Rattle.std.proofs.Common.{◌≡◌, ◌-◌, ℕ, true, Option, Some}
use Rattle.ic_raw.specs.Seen.{has_place}
use Rattle.ic_raw.specs.Tree.{lent_table}
use Rattle.ic_raw_augmented.specs.Ends.{EndsAbove}
use Rattle.ic_raw_augmented.proofs.Searches.{SumsAbove}
use Rattle.ic_raw_augmented.proofs.find.sum_above.Given as goal

-- a result that is right for the sum from the place of this turn is right for the sum from the first place
abbrev pub invariant-loop : goal.invariant-loop
invariant-loop l =
    let t = lent_table l.fn.links in
    record {
      inside : has_place t l.place ≡ true;
      found : (r : Option ℕ) → SumsAbove l.fn.kind t l.fn.sums l.place l.done (67 - l.counter) r → SumsAbove l.fn.kind t l.fn.sums l.fn.place l.fn.done 67 r;
      led : EndsAbove t (Some l.place) → EndsAbove t (Some l.fn.place);
    }
