-- How many keys a search compares, and how many comparisons its probe has counted.
use Rattle.std.specs.Prelude.{◌≡◌, ℕ, List}
use Rattle.ic_unsafe_ref.specs.declared.place.Place.{Place}
use Rattle.ic_rbtree.specs.declared.keys.key_adapter.Bound.{Bound}
use Rattle.ic_rbtree.specs.declared.keys.key_adapter.Bound.TheVariants.{Included, Excluded, Unbounded}
use Rattle.ic_rbtree.specs.declared.keys.probe.KeyProbe.{KeyProbe}
use Rattle.ic_rbtree.specs.KeyProbe.{looks_of}
pub use Rattle.ic_rbtree.specs.Comparing.{WithinComparisonBound}

-- THE NUMBER OF LOOKS (key comparisons) is at most what a search with this bound may make in a tree with the members s. For `Unbounded` the number of
-- looks is 0
abbrev pub WithinBound : {B : Type 0} → Bound B → ℕ → List Place → Type 0
WithinBound (Included _) looks s = WithinComparisonBound looks s
WithinBound (Excluded _) looks s = WithinComparisonBound looks s
WithinBound Unbounded looks s = looks ≡ 0

-- how many keys the probe of a bound has compared. The number is 0 if the bound has no key
abbrev pub looks_within : {A V K : Type 0} → Bound (KeyProbe A V K) → ℕ
looks_within (Included probe) = looks_of probe
looks_within (Excluded probe) = looks_of probe
looks_within Unbounded = 0
