-- A chain is a sequence of places in which the link of each member names its neighbors.
use Rattle.std.specs.Prelude.{◌≡◌, Option, Some, None, List, [], ◌∷◌}
use Rattle.ic_unsafe_ref.specs.declared.place.Place.{Place}
use Rattle.ic_link_ops.specs.Sequences.{IsDistinct, first_or, first, last}
use Rattle.ic_link_ops.specs.Tables.{Table}

-- The head of a list. `head` is the first member. `tail` is what a list of this kind stores about the last member.
pub record ListHead (W : Type 0) : Type 0 where
  pub head : Option Place
  pub tail : W

abbrev pub list_head : {W : Type 0} → Option Place → W → ListHead W
list_head head tail = record { head = head; tail = tail }

-- The head of a list that stores both its first and its last member.
abbrev pub Ends : Type 0
Ends = ListHead (Option Place)

-- The head of a list with no members. `kept p` is what a list of this kind stores about its last member p. If the list is empty,
-- p is none.
abbrev pub empty_list : {W : Type 0} → (Option Place → W) → ListHead W
empty_list kept = list_head None (kept None)

-- The head of an empty list, for a kind of list that stores both its first and its last member.
abbrev pub no_members : Ends
no_members = empty_list (λ last. last)

-- `end_of neighbor fresh end` is the first or last member of a list after an edit. Before the edit this member was `end`. The
-- edit put `fresh` beside `neighbor`, on the side away from this end. If `neighbor` is none, the edit was at this end, so the
-- result is `fresh`. Otherwise the result is `end`.
abbrev pub end_of : Option Place → Option Place → Option Place → Option Place
end_of None fresh end = fresh
end_of (Some x) fresh end = end

-- An edit has set `fresh` as the place before `at`. If `old` was what the list stored about its last member before the edit,
-- `new` is right after the edit. If `at` is none, the last member after the edit is `fresh`, and otherwise the last member stays.
abbrev pub TurnsTail : {W : Type 0} → (Option Place → W) → W → W → Option Place → Option Place → Type 0
TurnsTail kept old new at fresh = (last : Option Place) → old ≡ kept last → new ≡ kept (end_of at fresh last)

-- The head of a list changes from `old` to `new` by an edit between the members `before` and `after`. If `before` is none, the
-- first member after the edit is `begins`, and otherwise the first member stays. If `after` is none, the last member after the
-- edit is `ends`, and otherwise the last member stays.
pub record TurnsEnds {W : Type 0} (kept : Option Place → W) (old new : ListHead W) (before after : Option Place) (begins ends : Option Place) : Type 0 where
  pub head : new.head ≡ end_of before begins old.head
  pub tail : TurnsTail kept old.tail new.tail after ends

-- `between e a b` says that the place whose entry is e is between the places a and b. If a is none, no place is before it, and if
-- b is none, no place is after it.
module _ {E : Type 0} (between : E → Option Place → Option Place → Type 0) where
  -- The link of each member of s names the member's neighbors in s. The first member names `before` as the place before it, and
  -- the last member names `after` as the place after it.
  abbrev pub IsChain : (Place → E) → Option Place → List Place → Option Place → Type 0
  IsChain entry before [] after = Unit {0}
  IsChain entry before (x ∷ s) after = between (entry x) before (first_or s after) × IsChain entry (Some x) s after

  -- The sequence w of distinct places is a part of a chain. The first place of w is `front`, the last place of w is `back`, and w
  -- is between the places `before` and `after`.
  pub record IsStretch (entry : Place → E) (before front back after : Option Place) (w : List Place) : Type 0 where
    pub distinct : IsDistinct w
    pub chain : IsChain entry before w after
    pub starts : front ≡ first w
    pub ends : back ≡ last w

  module _ {W : Type 0} (kept : Option Place → W) where
    -- The table t represents the sequence s for the list: s is a chain of distinct places. `list.head` is the first of these
    -- places, and `list.tail` is what the list stores about the last of them.
    pub record RepresentsChain (t : Table E) (list : ListHead W) (s : List Place) : Type 0 where
      pub distinct : IsDistinct s
      pub chain : IsChain t.entry None s None
      pub head : list.head ≡ first s
      pub tail : list.tail ≡ kept (last s)

    -- The table represents some sequence of places for the list.
    abbrev pub RepresentsSomeChain : Table E → ListHead W → Type 0
    RepresentsSomeChain t list = (s : List Place) × RepresentsChain t list s

  -- The table represents a sequence of places for a list whose head stores both the first and the last member.
  abbrev pub RepresentsBetween : Table E → Ends → List Place → Type 0
  RepresentsBetween = RepresentsChain (λ last. last)
