-- These definitions state which members are between two bounds.
use Rattle.std.specs.Prelude.{◌≡◌, Bool, true, false, Option, Some, List, [], ◌++◌}
use Rattle.std.specs.declared.cmp.Ordering.{Ordering}
use Rattle.std.specs.Ordering.{is_ge}
use Rattle.std.specs.Option.{option_map}
use Rattle.ic_link_ops.specs.Prelude.{Place, Objects, first, last, object_there}
use Rattle.ic_rbtree.specs.declared.keys.key_adapter.Bound.{Bound}
use Rattle.ic_rbtree.specs.Borders.{IsLowerBorder, IsUpperBorder}

-- w is the segment of s from the member `low` to the member `high`, and both are none if w is empty
pub record IsSegment (s : List Place) (low high : Option Place) (w : List Place) : Type 0 where
  pub front : List Place
  pub back : List Place
  pub same : front ++ (w ++ back) ≡ s
  pub starts : low ≡ first w
  pub ends : high ≡ last w

-- whether both keys are given, and the second key is not less than the first
abbrev pub not_less : {K : Type 0} → (K → K → Ordering) → Option K → Option K → Bool
not_less cmp (Some low) (Some high) = is_ge (cmp high low)
not_less cmp _ _ = false

-- the positions `low` and `high` are on members, and the key at `high` is not less than the key at `low`
abbrev pub runs_up : {V K : Type 0} → (K → K → Ordering) → (V → K) → Objects V → Option Place → Option Place → Bool
runs_up cmp key_of objects low high = not_less cmp (option_map key_of (object_there objects low)) (option_map key_of (object_there objects high))

-- A RANGE: w is the segment of s from a lower border of the bound `min` to an upper border of the bound `max`. If `runs` is false for these two borders,
-- because the second key is less or a border is none, w is empty
pub record IsRange (min max : Bound (Place → Ordering)) (runs : Option Place → Option Place → Bool) (s w : List Place) : Type 0 where
  pub low : Option Place
  pub high : Option Place
  pub lower : IsLowerBorder min s low
  pub upper : IsUpperBorder max s high
  pub segment : runs low high ≡ true → IsSegment s low high w
  pub nothing : runs low high ≡ false → w ≡ []
