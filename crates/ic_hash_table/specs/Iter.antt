-- A walk returns the objects of a hash table one by one, and these definitions say which ones are left.
use Rattle.std.specs.Prelude.{ℕ, nat_eq, cond, Option, None, Some, List, [], ◌∷◌, ◌++◌}
use Rattle.ic_link_ops.specs.Prelude.{Place, Objects, Cut, join, IsAfter, Table, values_at, Successor, members_from}
use Rattle.ic_hash_table.specs.HashTable.{Holds}
use Rattle.ic_hash_table.specs.declared.iter.Iter.{Iter}

-- the members of the chains that begin with the first members `fronts`, one chain after another
abbrev pub members_of : {E : Type 0} → (E → Successor) → Table E → List (Option Place) → List Place
members_of successor t [] = []
members_of successor t (front ∷ fronts) = members_from successor t front ++ members_of successor t fronts

-- the members of s that come after a given place, or all members of s if no place is given
abbrev pub after : Option Place → List Place → List Place
after None s = s
after (Some p) [] = []
after (Some p) (x ∷ s) = cond (nat_eq x.word p.word) s (after (Some p) s)

-- `fronts` gives the first members of the chains, and `values` gives the value at each place
module _ {A B L O V K E : Type 0} (successor : E → Successor) (table : L → Table E) where
  -- the members that the walk has not returned yet
  abbrev pub rest_of : (B → List (Option Place)) → Iter A B L O V K → List Place
  rest_of fronts t = after t.at (members_of successor (table t.links.now) (fronts t.table.now.buckets))

  -- the objects that the walk has not returned yet
  abbrev pub objects_left : (B → List (Option Place)) → (O → Objects V) → Iter A B L O V K → List V
  objects_left fronts values t = values_at (values t.objects.now) (rest_of fronts t)

  -- the table still holds a sequence of members, and the walk is at a gap of this sequence
  abbrev pub CanWalk : (A → V → ℕ) → (B → List (Option Place)) → (O → Objects V) → Iter A B L O V K → Type 0
  CanWalk hash fronts values t = (gap : Cut) × Holds successor hash fronts (table t.links.now) t.table.now (values t.objects.now) (join gap) × IsAfter gap t.at
