-- This file describes two lists of any kind in one table, and a position in the first list.
use Rattle.std.specs.Prelude.{Option, List}
use Rattle.ic_unsafe_ref.specs.declared.place.Place.{Place}
use Rattle.ic_link_ops.specs.Sequences.{Cut, join, IsAfter, IsDisjoint}
use Rattle.ic_link_ops.specs.Tables.{Table}

-- `Represents t head s` says that the table t represents the sequence s for the list with this head.
module _ {E H : Type 0} (Represents : Table E → H → List Place → Type 0) where
  -- The table t represents a sequence for `list` and one for `other`, and the two lists share no member. The position is null or
  -- on a member of `list`.
  pub record AreApart (t : Table E) (list other : H) (position : Option Place) : Type 0 where
    pub gap : Cut
    pub rest : List Place
    pub shown : Represents t list (join gap)
    pub after : IsAfter gap position
    pub other_represented : Represents t other rest
    pub apart : IsDisjoint rest (join gap)
