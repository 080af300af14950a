-- What the contract of an insert in the order of the keys states. Every kind of collection uses these definitions.
use Rattle.std.specs.Prelude.{◌≡◌, Bool, true, false, Some, Result, OnOk, OnErr, IfErr, List, [], ◌∷◌}
use Rattle.std.specs.declared.cmp.Ordering.{Ordering}
use Rattle.std.specs.Ordering.{is_lt}
use Rattle.ic_link_ops.specs.Prelude.{Place, Cut, join, first, last, Table, CursorState, RepresentsAt, IsValidCursor, LinkStep, acquires, Inserts}
use Rattle.ic_link_ops.specs.declared.errors.AlreadyLinked.{AlreadyLinked}

-- A BORDER of a test is a gap. The member before the gap, if there is one, fails the test, and the member after the gap, if there is one, passes the
-- test
pub record IsBorder (test : Place → Bool) (gap : Cut) : Type 0 where
  pub fails : (q : Place) → last gap.front ≡ Some q → test q ≡ false
  pub passes : (q : Place) → first gap.back ≡ Some q → test q ≡ true

-- whether a key is less than the key of the member p. `at`: how the key compares with the key of each member
abbrev pub less_at : (Place → Ordering) → Place → Bool
less_at at p = is_lt (at p)

-- p IS INSERTED IN ORDER into a gap of s. The key of the member right before the gap, if any, is not greater than the key of p. The key of the member right
-- after the gap, if any, is greater. `at`: how the key of p compares with the key of each member
module _ {E H : Type 0} (Represents : Table E → H → List Place → Type 0) (at : Place → Ordering) (old new : Table E) where
  pub record InsertsInOrder (head : H) (s : List Place) (p : Place) : Type 0 where
    pub gap : Cut
    pub same : join gap ≡ s
    pub border : IsBorder (less_at at) gap
    pub inserted : Inserts Represents old new head gap p

-- `Represents`: which sequence of members a table represents for a head. `table`: the entries of a table. `Trace`: which links the table has acquired
-- and released between two states. `old`, `new`: the states before the call and after the call
module _ {L E H : Type 0} (Represents : Table E → H → List Place → Type 0) (table : L → Table E) (Trace : L → L → List LinkStep → Type 0) where
  -- the object is inserted in the order of the keys, or its link is refused and the collection has not changed. The cursor stays where it is
  pub record InsertsAmong {T : Type 0} (Refused : L → L → Place → Type 0) (at : Place → Ordering) (old : CursorState L H) (object : Place)
      (result : Result Unit (AlreadyLinked T)) (new : CursorState L H) : Type 0 where
    pub inserted : (s : List Place) → RepresentsAt Represents table old s → OnOk result (InsertsInOrder Represents at (table old.links) (table new.links) new.head s object)
    pub acquired : OnOk result (Trace old.links new.links (acquires object ∷ []))
    pub refused : OnErr result (Refused old.links new.links object)
    pub unchanged : IfErr result (λ refused. (refused.0 ≡ object) × (new.head ≡ old.head))
    pub position : new.position ≡ old.position
    pub stands : IsValidCursor Represents table new
