-- This file defines which sequence of places a table represents for a singly linked list.
use Rattle.std.specs.Prelude.{◌≡◌, ⊤, Bool, true, Option, None, List}
use Rattle.ic_unsafe_ref.specs.declared.place.Place.{Place}
use Rattle.ic_link_ops.specs.Sequences.{last}
use Rattle.ic_link_ops.specs.Tables.{Table}
use Rattle.ic_link_ops.specs.Chains.{ListHead, list_head, IsStretch, RepresentsChain}
use Rattle.ic_link_ops.specs.Walk.{walked}

-- The head of a singly linked list stores the first member, and nothing about the last member.
abbrev pub Front : Type 0
Front = ListHead ⊤

-- The head of the singly linked list whose first member is `first`.
abbrev pub list_from : Option Place → Front
list_from first = list_head first tt

-- The parts of an entry of a singly linked list: whether its place is linked, and which place is after it.
pub record Successor : Type 0 where
  pub linked : Bool
  pub next : Option Place

module _ {E : Type 0} (successor : E → Successor) where
  -- The parts of the entry that the table t stores at the place p.
  abbrev pub successor_at : Table E → Place → Successor
  successor_at t p = successor (t.entry p)

  -- The entry e says that its place is linked and that the place `after` is after it. The entry does not name the place before
  -- its own place.
  pub record IsFollowed (e : E) (before after : Option Place) : Type 0 where
    pub linked : (successor e).linked ≡ true
    pub next : (successor e).next ≡ after

  -- The table represents a sequence of places for a singly linked list, whose head stores only the first member.
  abbrev pub Represents : Table E → Front → List Place → Type 0
  Represents = RepresentsChain IsFollowed (λ last. tt)

  -- The table represents some sequence of places for the singly linked list.
  abbrev pub RepresentsSome : Table E → Front → Type 0
  RepresentsSome t list = (s : List Place) × Represents t list s

  -- The next place that an entry names. The next place does not depend on the place `before`.
  abbrev pub next_of : E → Option Place → Option Place
  next_of e before = (successor e).next

  -- `members_from` lists the members from the place `front` to the end of the list. `members` lists all members of the list.
  abbrev pub members_from : Table E → Option Place → List Place
  members_from t front = walked next_of t None front None

  abbrev pub members : Table E → Front → List Place
  members t list = members_from t list.head

  -- The sequence w is the last part of a chain. The first place of w is `front`.
  pub record IsWalk (entry : Place → E) (front : Option Place) (w : List Place) : Type 0 where
    pub before : Option Place
    pub part : IsStretch IsFollowed entry before front (last w) None w
