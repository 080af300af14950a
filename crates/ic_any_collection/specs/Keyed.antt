-- Where a call that searches a tree for a key inserts an object.
use Rattle.std.specs.Prelude.{Option}
use Rattle.std.specs.declared.cmp.Ordering.{Ordering}
use Rattle.ic_link_ops.specs.Prelude.{Place, Cut, Table}
use Rattle.ic_rbtree.specs.Borders.{IsBorder, less_at, at_most_at}
use Rattle.ic_any_collection.specs.declared.entry.Entry.{Entry}
use Rattle.ic_any_collection.specs.declared.any_collection.AnyCollection.{AnyCollection}
use Rattle.ic_any_collection.specs.AnyCollection.{members_in}
use Rattle.ic_any_collection.specs.Edits.{AtGap, Puts}

-- the searched key belongs in the gap: the member directly before the gap, if any, has a smaller key, and the member directly after the gap, if any,
-- has a larger key
abbrev pub IsVacantFor : (Place → Ordering) → Cut → Type 0
IsVacantFor at gap = IsBorder (at_most_at at) gap × IsBorder (less_at at) gap

module _ {V : Type 0} (at : Place → Ordering) (t t' : Table Entry) (m m' : AnyCollection V) (p : Place) (cursor : Option Place) where
  -- p is inserted in order: after members whose keys are not greater than the searched key, and before members with greater keys
  abbrev pub PutsInOrder : Type 0
  PutsInOrder = AtGap (members_in t m) (λ gap. IsBorder (less_at at) gap × Puts t t' m m' gap p cursor)

  -- the place p is inserted into the gap where the searched key belongs
  abbrev pub PutsAtKey : Type 0
  PutsAtKey = AtGap (members_in t m) (λ gap. IsVacantFor at gap × Puts t t' m m' gap p cursor)
