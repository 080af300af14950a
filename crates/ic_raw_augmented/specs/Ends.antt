-- How searches by sums end, whatever the link words contain.
use Rattle.std.specs.Prelude.{◌≡◌, ◌⊎◌, ◌≤◌, ℕ, List, [], ◌∷◌, Option, Some, None}
use Rattle.ic_link_ops.specs.Prelude.{Place, Table}
use Rattle.ic_raw.specs.declared.words.RawThree.{RawThree}
use Rattle.ic_raw.specs.Keys.{key_of}
use Rattle.ic_raw.specs.Seen.{seen, seen_node, IsReached}
use Rattle.ic_raw_augmented.specs.declared.sums.RawSum.{RawSum}
use Rattle.ic_raw_augmented.specs.Sums.{next_end, sum_below}

module _ (t : Table RawThree) where
  -- the list has the places above p, from the parent of p up to a place without a parent. If the list is empty, p has no parent
  abbrev pub LeadsUp : Place → List Place → Type 0
  LeadsUp p [] = (seen_node ((seen t).entry p)).parent ≡ None
  LeadsUp p (x ∷ w) = ((seen_node ((seen t).entry p)).parent ≡ Some x) × LeadsUp x w

  -- the parents above the given place lead to a place without a parent. If no place is given, the statement is always true
  abbrev pub EndsAbove : Option Place → Type 0
  EndsAbove None = Unit {0}
  EndsAbove (Some p) = (w : List Place) × LeadsUp p w

  module _ (sums : List RawSum) (root at : Option Place) where
    -- a search by sums finds no member: the sum of the right subtree of `at`, or of the whole tree if `at` is none, is at most `bound`. The parents above `at`
    -- lead to a place without a parent
    abbrev pub FindEnds : (bound : ℕ) → Type 0
    FindEnds bound = (sum_below sums (next_end t root at) ≤ bound) × EndsAbove at

    -- a search for an overlap finds no member: a search by sums with the bound `from` finds no member, or links lead to a place whose interval starts at `to`
    -- or later
    abbrev pub OverlapEnds : (starts : List ℕ) (from to : ℕ) → Type 0
    OverlapEnds starts from to = FindEnds from ⊎ ((m : Place) × IsReached t root (at ∷ []) m × (to ≤ key_of starts m))
