-- This file defines which sequence of places a table represents for an XOR linked list.
use Rattle.std.specs.Prelude.{◌≡◌, Bool, true, Option, None, List}
use Rattle.ic_unsafe_ref.specs.declared.place.Place.{Place}
use Rattle.ic_link_ops.specs.Tables.{Table}
use Rattle.ic_link_ops.specs.Chains.{Ends, RepresentsBetween}
use Rattle.ic_link_ops.specs.Walk.{walked}

-- `is_linked e` says that the place of the entry e is linked. `joins e a b` says that a and b are the neighbors of this place. A
-- neighbor is none at an end of the list.
module _ {E : Type 0} (is_linked : E → Bool) (joins : E → Option Place → Option Place → Type 0) where
  -- The entry e says that its place is linked, and that the places `before` and `after` are its two neighbors.
  pub record IsJoined (e : E) (before after : Option Place) : Type 0 where
    pub linked : is_linked e ≡ true
    pub joined : joins e before after

  -- The table t represents the sequence s for the XOR linked list whose ends are stored in `list`.
  abbrev pub Represents : Table E → Ends → List Place → Type 0
  Represents t list s = RepresentsBetween IsJoined t list s

  -- The table represents some sequence of places for the XOR linked list.
  abbrev pub RepresentsSome : Table E → Ends → Type 0
  RepresentsSome t list = (s : List Place) × Represents t list s

-- If one neighbor of the place with the entry e is a, `other e a` is the other neighbor.
module _ {E : Type 0} (other : E → Option Place → Option Place) where
  -- The members of the XOR linked list with these ends, in order.
  abbrev pub members : Table E → Ends → List Place
  members t list = walked other t None list.head list.tail
