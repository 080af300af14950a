-- When the position of a cursor is valid, and what the position stores, for every kind of list.
use Rattle.std.specs.Prelude.{◌≡◌, Option, Some, List, ◌∷◌, ◌++◌}
use Rattle.ic_link_ops.specs.Prelude.{Place, Cut, join, first, last, IsAfter, Table}

-- p is a member of the represented sequence, and `prev` is the member before p, or none if p is the first member. `shows s`: a table represents the sequence
-- s
pub record HasMemberAfter (shows : List Place → Type 0) (p : Place) (prev : Option Place) : Type 0 where
  pub front : List Place
  pub back : List Place
  pub shown : shows (front ++ p ∷ back)
  pub neighbor : prev ≡ last front

-- p is a member of the represented sequence, and `next` is the member after p, or none if p is the last member. `shows s`: a table represents the sequence s
pub record HasMemberBefore (shows : List Place → Type 0) (p : Place) (next : Option Place) : Type 0 where
  pub front : List Place
  pub back : List Place
  pub shown : shows (front ++ p ∷ back)
  pub neighbor : next ≡ first back

-- `Represents`: which sequence a table represents for a list. `member at`: the member that the position `at` is on, or none if the position is null.
-- `CachesNext at q`: what the position `at` stores about the next member is right if q is the next member
module _ {L E H P : Type 0} (Represents : Table E → H → List Place → Type 0) (table : L → Table E) (member : P → Option Place) (CachesNext : P → Option Place → Type 0) where
  -- THE POSITION IS VALID: it is null or on a member of the sequence that the table represents for the list. If the position is on a member, what it
  -- stores about the next member is right
  pub record IsValidAt (links : L) (list : H) (at : P) : Type 0 where
    pub gap : Cut
    pub shown : Represents (table links) list (join gap)
    pub after : IsAfter gap (member at)
    pub caches : (q : Place) → member at ≡ Some q → CachesNext at (first gap.back)
