-- The first member at which the combined values exceed a bound, and the intervals that overlap a given interval.
use Rattle.std.specs.Prelude.{◌≡◌, ◌≤◌, ◌<◌, ◌∷◌, ◌++◌, ◌&&◌, ℕ, Bool, nat_lt, List, [], Option, Some, None}
use Rattle.ic_unsafe_ref.specs.declared.place.Place.{Place}
use Rattle.ic_raw_augmented.specs.declared.sums.Kind.{Kind}
use Rattle.ic_raw_augmented.specs.Sums.{total}

module _ (kind : Kind) (value : Place → ℕ) where
  -- the given member is the first one of s at which the combined values exceed the bound. The values of `done` and of s up to and including this member exceed
  -- the bound, and without this member they do not. If no member is given, the values of `done` and of all of s do not exceed the bound
  abbrev pub IsFirstBeyond : (done : List Place) → ℕ → List Place → Option Place → Type 0
  IsFirstBeyond done bound s None = total kind value (done ++ s) ≤ bound
  IsFirstBeyond done bound s (Some m) =
      (front : List Place) × (back : List Place) × (s ≡ front ++ m ∷ back)
      × (total kind value (done ++ front) ≤ bound) × (bound < total kind value (done ++ (front ++ m ∷ [])))

-- whether the interval of p overlaps [from, to): it starts before `to` and ends after `from`. An interval does not contain its end
abbrev pub overlaps : (start end : Place → ℕ) → (from to : ℕ) → Place → Bool
overlaps start end from to p = nat_lt (start p) to && nat_lt from (end p)
