-- These definitions say when two intervals overlap.
use Rattle.std.specs.Prelude.{ℕ, Bool, ◌&&◌, nat_lt}
use Rattle.ic_link_ops.specs.Prelude.{Place, Objects}
use Rattle.ic_rbtree.specs.SortedObjects.{key_at}

-- the start of the interval at the place p, or 0 if p has none
abbrev pub start_in : Objects ℕ → Place → ℕ
start_in starts p = key_at (λ (start : ℕ). start) starts p

-- THE INTERVAL at p OVERLAPS the interval [from, to): it starts before `to`, and ends after `from`. The end of an interval does not belong to it
abbrev pub overlaps : (start end : Place → ℕ) → ℕ → ℕ → Place → Bool
overlaps start end from to p = nat_lt (start p) to && nat_lt from (end p)
