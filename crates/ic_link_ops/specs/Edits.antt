-- This file describes the result of an accepted edit of a collection. Each kind of collection uses the definitions in this file.
use Rattle.std.specs.Prelude.{List, ◌∷◌, ◌++◌}
use Rattle.ic_unsafe_ref.specs.declared.place.Place.{Place}
use Rattle.ic_link_ops.specs.Sequences.{Cut, join, insert, remove, replace, splice}
use Rattle.ic_link_ops.specs.Tables.{Table, ChangesOnlyIn}

-- `Represents t head s` says that the table t represents the sequence s for the collection with this head. The edit happens at
-- the gap, which is a cut of the sequence before the edit. The steps of the table determine which places are linked afterwards.
module _ {E H : Type 0} (Represents : Table E → H → List Place → Type 0) (old new : Table E) where
  -- The place p is inserted at the gap, and no entries are changed except those of the members and of p.
  pub record Inserts (head : H) (gap : Cut) (p : Place) : Type 0 where
    pub shows : Represents new head (insert gap p)
    pub frame : ChangesOnlyIn old new (p ∷ join gap)

  -- The member after the gap is removed, and no entries are changed except those of the members before the edit.
  pub record Removes (head : H) (gap : Cut) : Type 0 where
    pub shows : Represents new head (remove gap)
    pub frame : ChangesOnlyIn old new (join gap)

  -- The place p replaces the member after the gap, and no entries are changed except those of the members and of p.
  pub record Replaces (head : H) (gap : Cut) (p : Place) : Type 0 where
    pub shows : Represents new head (replace gap p)
    pub frame : ChangesOnlyIn old new (p ∷ join gap)

  -- All members of the sequence t are inserted at the gap, and no entries are changed except those of t's members and of the
  -- collection's members.
  pub record Splices (head : H) (gap : Cut) (t : List Place) : Type 0 where
    pub shows : Represents new head (splice gap t)
    pub frame : ChangesOnlyIn old new (splice gap t)

  -- A collection is split: the members `kept` stay in it, and the members `handed` form a new collection. No entries are changed
  -- except those of the members.
  pub record Splits (kept_head handed_head : H) (kept handed : List Place) : Type 0 where
    pub keeps : Represents new kept_head kept
    pub hands_out : Represents new handed_head handed
    pub frame : ChangesOnlyIn old new (kept ++ handed)
