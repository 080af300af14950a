-- This file defines which sequence of places a table represents for a doubly linked list.
use Rattle.std.specs.Prelude.{◌≡◌, Bool, true, Option, None, List}
use Rattle.ic_unsafe_ref.specs.declared.place.Place.{Place}
use Rattle.ic_link_ops.specs.Tables.{Table}
use Rattle.ic_link_ops.specs.Chains as chains
use Rattle.ic_link_ops.specs.Chains.{Ends, IsStretch, RepresentsBetween}
use Rattle.ic_link_ops.specs.Walk.{walked}

-- The parts of an entry of a doubly linked list: whether its place is linked, and which places are before and after it.
pub record Neighbors : Type 0 where
  pub linked : Bool
  pub prev : Option Place
  pub next : Option Place

module _ {E : Type 0} (neighbors : E → Neighbors) where
  -- The parts of the entry that the table t stores at the place p.
  abbrev pub neighbors_at : Table E → Place → Neighbors
  neighbors_at t p = neighbors (t.entry p)

  -- The entry e says that its place is linked, that the place `before` is before it, and that the place `after` is after it.
  pub record IsBetween (e : E) (before after : Option Place) : Type 0 where
    pub linked : (neighbors e).linked ≡ true
    pub prev : (neighbors e).prev ≡ before
    pub next : (neighbors e).next ≡ after

  -- The entry of each member of s names the neighbors of the member in s.
  abbrev pub IsChain : (Place → E) → Option Place → List Place → Option Place → Type 0
  IsChain entry before s after = chains.IsChain IsBetween entry before s after

  -- The table t represents the sequence s for the doubly linked list whose ends are stored in `list`.
  abbrev pub Represents : Table E → Ends → List Place → Type 0
  Represents t list s = RepresentsBetween IsBetween t list s

  -- The table represents some sequence of places for the list.
  abbrev pub RepresentsSome : Table E → Ends → Type 0
  RepresentsSome t list = (s : List Place) × Represents t list s

  -- The next place that an entry names. The next place does not depend on the place `before`.
  abbrev pub next_of : E → Option Place → Option Place
  next_of e before = (neighbors e).next

  -- The places from `front` to `back`, in the order in which the entries link them.
  abbrev pub members_between : Table E → Option Place → Option Place → List Place
  members_between t front back = walked next_of t None front back

  -- The members of the list with these ends, in order.
  abbrev pub members : Table E → Ends → List Place
  members t list = members_between t list.head list.tail

  -- The sequence w is a part of a chain. The first place of w is `front`, and the last place of w is `back`.
  pub record IsWalk (entry : Place → E) (front back : Option Place) (w : List Place) : Type 0 where
    pub before : Option Place
    pub after : Option Place
    pub part : IsStretch IsBetween entry before front back after w
