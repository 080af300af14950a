-- A position in a collection is on a member, or it is null. Each kind of collection uses the definitions in this file.
use Rattle.std.specs.Prelude.{◌≡◌, Option, Some, None, List, ◌∷◌, ◌++◌, drop}
use Rattle.ic_unsafe_ref.specs.declared.place.Place.{Place}
use Rattle.ic_unsafe_ref.specs.Objects.{Objects, object_at}
use Rattle.ic_link_ops.specs.Sequences.{Cut, join, first, IsAfter, IsBefore}
use Rattle.ic_link_ops.specs.Tables.{Table}

-- The state in which a call starts or ends: the table of links, the head of the collection, and a position in the collection.
pub record CursorState (L H : Type 0) : Type 0 where
  pub links : L
  pub head : H
  pub position : Option Place

module _ {L H : Type 0} where
  -- The state with the given table of links, head of a collection, and position.
  abbrev pub site : L → H → Option Place → CursorState L H
  site links head position = record { links = links; head = head; position = position }

-- `Represents t head s` says that the table t represents the sequence s for the collection with this head.
module _ {L E H : Type 0} (Represents : Table E → H → List Place → Type 0) (table : L → Table E) where
  -- The table in the state `at` represents the sequence s for the collection in that state.
  abbrev pub RepresentsAt : CursorState L H → List Place → Type 0
  RepresentsAt at s = Represents (table at.links) at.head s

  -- In the state `at` the position is valid: it is null, or it is on a member of the sequence that the table represents for the
  -- collection.
  pub record IsValidCursor (at : CursorState L H) : Type 0 where
    pub gap : Cut
    pub shown : RepresentsAt at (join gap)
    pub after : IsAfter gap at.position

  -- A call moves to the next member: the gap after the position of `old` is the gap before the new position, which is `position`.
  pub record MovesOn (old : CursorState L H) (position : Option Place) : Type 0 where
    pub leads : (gap : Cut) → RepresentsAt old (join gap) → IsAfter gap old.position → IsBefore gap position
    pub stands : IsValidCursor (site old.links old.head position)

  -- A call moves to the previous member: the gap before the position of `old` is the gap after the new position, which is
  -- `position`.
  pub record MovesBack (old : CursorState L H) (position : Option Place) : Type 0 where
    pub leads : (gap : Cut) → RepresentsAt old (join gap) → IsBefore gap old.position → IsAfter gap position
    pub stands : IsValidCursor (site old.links old.head position)

-- The place p is a member of a sequence for which the condition `shows` is true.
pub record HasMember (shows : List Place → Type 0) (p : Place) : Type 0 where
  pub front : List Place
  pub back : List Place
  pub shown : shows (front ++ p ∷ back)

-- The position is on the second member after the gap, or it is null if there is no second member after the gap.
abbrev pub IsSecondAfter : Cut → Option Place → Type 0
IsSecondAfter gap position = position ≡ first (drop 1 gap.back)

-- The object at a position. The result is none if the position is null.
abbrev pub object_there : {T : Type 0} → Objects T → Option Place → Option T
object_there objects None = None
object_there objects (Some p) = object_at objects p
