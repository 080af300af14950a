-- This file describes the result of a call that edits a collection at a position. Each kind of collection and each cursor uses
-- the definitions in this file.
use Rattle.std.specs.Prelude.{◌≡◌, ◌≢◌, Option, Some, None, Result, OnOk, OnErr, OnSome, IfOk, IfErr, IfSome, IfNone, List, [], ◌∷◌}
use Rattle.ic_unsafe_ref.specs.declared.place.Place.{Place}
use Rattle.ic_link_ops.specs.declared.errors.AlreadyLinked.{AlreadyLinked}
use Rattle.ic_link_ops.specs.declared.errors.ReplaceError.{ReplaceError}
use Rattle.ic_link_ops.specs.Sequences.{Cut, join, first, IsAfter, IsBefore, IsDisjoint}
use Rattle.ic_link_ops.specs.Tables.{Table}
use Rattle.ic_link_ops.specs.LinkSteps.{LinkStep, acquires, releases}
use Rattle.ic_link_ops.specs.Edits.{Inserts, Removes, Replaces, Splices, Splits}
use Rattle.ic_link_ops.specs.Errors.{object_of, ByCause}
use Rattle.ic_link_ops.specs.Positions.{CursorState, RepresentsAt, IsValidCursor, IsSecondAfter}

-- If the collection of `old` and the collection `given` share no member, `Holds gap t` is true. Here the gap is beside the
-- position of `old`, and t is the sequence of the collection `given`.
module _ {L E H : Type 0} (Represents : Table E → H → List Place → Type 0) (table : L → Table E) where
  abbrev pub WhereApart : (Cut → Option Place → Type 0) → CursorState L H → H → (Cut → List Place → Type 0) → Type 0
  WhereApart IsBeside old given Holds = (gap : Cut) (t : List Place) → RepresentsAt Represents table old (join gap) → IsBeside gap old.position
      → Represents (table old.links) given t → IsDisjoint t (join gap) → Holds gap t

-- `Represents t head s` says that the table t represents the sequence s for the collection with this head. `table` turns the
-- links into a table as contracts describe it. `Trace` says by which steps the links changed. `old` and `new` are the states
-- before and after the call.
module _ {L E H : Type 0} (Represents : Table E → H → List Place → Type 0) (table : L → Table E) (Trace : L → L → List LinkStep → Type 0) where
  -- The object is inserted at the gap beside the position, or the table refuses to link the object. If it is refused, the
  -- collection stays and the error contains the object. The position stays in either case.
  pub record InsertsBeside {T : Type 0} (Refused : L → L → Place → Type 0) (IsBeside : Cut → Option Place → Type 0)
      (old : CursorState L H) (object : Place) (result : Result Unit (AlreadyLinked T)) (new : CursorState L H) : Type 0 where
    pub inserted : (gap : Cut) → RepresentsAt Represents table old (join gap) → IsBeside gap old.position
        → OnOk result (Inserts Represents (table old.links) (table new.links) new.head gap object)
    pub acquired : OnOk result (Trace old.links new.links (acquires object ∷ []))
    pub refused : OnErr result (Refused old.links new.links object)
    pub unchanged : IfErr result (λ refused. (refused.0 ≡ object) × (new.head ≡ old.head))
    pub position : new.position ≡ old.position
    pub stands : IsValidCursor Represents table new

  -- The call removes and returns the member that the position is on, and the position moves to the next member. If the position
  -- is null, the call returns none and nothing has changed.
  pub record RemovesThere (old : CursorState L H) (result : Option Place) (new : CursorState L H) : Type 0 where
    pub answer : result ≡ old.position
    pub removed : (gap : Cut) → RepresentsAt Represents table old (join gap) → IsBefore gap old.position
        → OnSome result (Removes Represents (table old.links) (table new.links) new.head gap)
    pub released : IfSome result (λ object. Trace old.links new.links (releases object ∷ []))
    pub moved : (gap : Cut) → RepresentsAt Represents table old (join gap) → IsBefore gap old.position → IsSecondAfter gap new.position
    pub null : IfNone result (new ≡ old)
    pub stands : IsValidCursor Represents table new

  -- The object replaces the member that the position is on. The call returns the replaced member, and the position is then on the
  -- object. If the position is null, or the table refuses to link the object, the call returns an error with the object. The
  -- collection and the position then stay.
  pub record ReplacesThere {T : Type 0} (Refused : L → L → Place → Type 0)
      (old : CursorState L H) (object : Place) (result : Result Place (ReplaceError T)) (new : CursorState L H) : Type 0 where
    pub answer : IfOk result (λ out. old.position ≡ Some out)
    pub replaced : (gap : Cut) → RepresentsAt Represents table old (join gap) → IsBefore gap old.position
        → OnOk result (Replaces Represents (table old.links) (table new.links) new.head gap object)
    pub moved : OnOk result (new.position ≡ Some object)
    pub exchanged : IfOk result (λ out. Trace old.links new.links (acquires object ∷ releases out ∷ []))
    pub refused : IfErr result (ByCause ((old.position ≡ None) × (new.links ≡ old.links))
        ((old.position ≢ None) × Refused old.links new.links object))
    pub unchanged : IfErr result (λ refused. (object_of refused ≡ object) × (new.head ≡ old.head) × (new.position ≡ old.position))
    pub stands : IsValidCursor Represents table new

  -- The call removes and returns the member after the position, or the first member if the position is null. If there is no
  -- member to remove, the call returns none and nothing has changed. The position stays.
  pub record RemovesNext (old : CursorState L H) (result : Option Place) (new : CursorState L H) : Type 0 where
    pub answer : (gap : Cut) → RepresentsAt Represents table old (join gap) → IsAfter gap old.position → result ≡ first gap.back
    pub removed : (gap : Cut) → RepresentsAt Represents table old (join gap) → IsAfter gap old.position
        → OnSome result (Removes Represents (table old.links) (table new.links) new.head gap)
    pub released : IfSome result (λ object. Trace old.links new.links (releases object ∷ []))
    pub position : new.position ≡ old.position
    pub nothing : IfNone result (new ≡ old)
    pub stands : IsValidCursor Represents table new

  -- The object replaces the member after the position, or the first member if the position is null, and the call returns the
  -- replaced member. If there is no member to replace, or the table refuses to link the object, the call returns an error with
  -- the object, and the collection stays. The position always stays.
  pub record ReplacesNext {T : Type 0} (Refused : L → L → Place → Type 0)
      (old : CursorState L H) (object : Place) (result : Result Place (ReplaceError T)) (new : CursorState L H) : Type 0 where
    pub answer : (gap : Cut) → RepresentsAt Represents table old (join gap) → IsAfter gap old.position → IfOk result (λ out. first gap.back ≡ Some out)
    pub replaced : (gap : Cut) → RepresentsAt Represents table old (join gap) → IsAfter gap old.position
        → OnOk result (Replaces Represents (table old.links) (table new.links) new.head gap object)
    pub exchanged : IfOk result (λ out. Trace old.links new.links (acquires object ∷ releases out ∷ []))
    pub refused : (gap : Cut) → RepresentsAt Represents table old (join gap) → IsAfter gap old.position
        → IfErr result (ByCause ((first gap.back ≡ None) × (new.links ≡ old.links)) ((first gap.back ≢ None) × Refused old.links new.links object))
    pub unchanged : IfErr result (λ refused. (object_of refused ≡ object) × (new.head ≡ old.head))
    pub position : new.position ≡ old.position
    pub stands : IsValidCursor Represents table new

  -- All members of the collection `given` are inserted at the gap beside the position, if the two collections share no member.
  -- The position stays.
  pub record SplicesBeside (IsBeside : Cut → Option Place → Type 0) (old : CursorState L H) (given : H) (new : CursorState L H) : Type 0 where
    pub spliced : WhereApart Represents table IsBeside old given (Splices Represents (table old.links) (table new.links) new.head)
    pub trace_stays : Trace old.links new.links []
    pub position : new.position ≡ old.position
    pub stands : WhereApart Represents table IsBeside old given (λ gap t. IsValidCursor Represents table new)

  -- The collection is split at the gap beside the position. The members `kept gap` stay in the collection, and the call returns
  -- the members `handed gap` as a new collection. The position stays.
  pub record SplitsBeside (IsBeside : Cut → Option Place → Type 0) (kept handed : Cut → List Place)
      (old : CursorState L H) (result : H) (new : CursorState L H) : Type 0 where
    pub split : (gap : Cut) → RepresentsAt Represents table old (join gap) → IsBeside gap old.position
        → Splits Represents (table old.links) (table new.links) new.head result (kept gap) (handed gap)
    pub trace_stays : Trace old.links new.links []
    pub position : new.position ≡ old.position
    pub stands : IsValidCursor Represents table new

  -- `SplitsAfter` splits at the gap after the position and keeps the members before the gap. `SplitsBefore` splits at the gap
  -- before the position and keeps the members after the gap.
  abbrev pub SplitsAfter : CursorState L H → H → CursorState L H → Type 0
  SplitsAfter = SplitsBeside IsAfter (λ gap. gap.front) (λ gap. gap.back)

  abbrev pub SplitsBefore : CursorState L H → H → CursorState L H → Type 0
  SplitsBefore = SplitsBeside IsBefore (λ gap. gap.back) (λ gap. gap.front)
