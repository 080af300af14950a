-- What an edit of a ring does. `old` and `new` are the links before the call and after it.
use Rattle.std.specs.Prelude.{◌≡◌, ◌≢◌, Option, Result, OnOk, OnErr, IfErr, IfSome, IfNone, List, [], ◌∷◌, ◌++◌}
use Rattle.ic_link_ops.specs.Prelude.{Place, Table, Cut, insert, IsAbsent, ChangesOnlyIn, acquires, releases, LinkStep, Neighbors}
use Rattle.ic_link_ops.specs.declared.errors.AlreadyLinked.{AlreadyLinked}
use Rattle.ic_ring.specs.Rings.{Represents, RepresentsBeside, IsRingOf, OthersStay}

-- `right_before p object back`: the object, then the place p, then the places `back`
abbrev pub right_before : Place → Place → List Place → List Place
right_before p object back = object ∷ p ∷ back

-- `right_after p object back`: the place p, then the object, then the places `back`
abbrev pub right_after : Place → Place → List Place → List Place
right_after p object back = p ∷ object ∷ back

-- `neighbors` reads the neighbors from an entry, `table` turns the links into a table, and `Trace` lists the steps that acquire and release links
module _ {L E : Type 0} (neighbors : E → Neighbors) (table : L → Table E) (Trace : L → L → List LinkStep → Type 0) where
  -- AN OBJECT IS PUSHED into the gap `end s` of the members s of the ring with this head, or its link is refused and nothing changes
  pub record Pushes {T : Type 0} (Refused : L → L → Place → Type 0) (end : List Place → Cut) (head : Place)
      (old : L) (object : Place) (result : Result Unit (AlreadyLinked T)) (new : L) : Type 0 where
    pub inserted : (s : List Place) → Represents neighbors (table old) head s → OnOk result (Represents neighbors (table new) head (insert (end s) object))
    pub acquired : OnOk result (Trace old new (acquires object ∷ []))
    pub refused : OnErr result (Refused old new object)
    pub unchanged : IfErr result (λ refused. refused.0 ≡ object)
    pub others : OthersStay neighbors (table old) (table new) (head ∷ [])
    pub frame : (s : List Place) → Represents neighbors (table old) head s → ChangesOnlyIn (table old) (table new) (object ∷ head ∷ s)

  -- A MEMBER IS POPPED from the ring with this head. Of the members s, the call returns the member `taken s` and leaves the members `rest s`
  pub record Pops (taken : List Place → Option Place) (rest : List Place → List Place) (head : Place) (old : L) (result : Option Place) (new : L) : Type 0 where
    pub answer : (s : List Place) → Represents neighbors (table old) head s → result ≡ taken s
    pub removed : (s : List Place) → Represents neighbors (table old) head s → Represents neighbors (table new) head (rest s)
    pub released : IfSome result (λ object. Trace old new (releases object ∷ []))
    pub empty : IfNone result (new ≡ old)
    pub others : OthersStay neighbors (table old) (table new) (head ∷ [])
    pub frame : (s : List Place) → Represents neighbors (table old) head s → ChangesOnlyIn (table old) (table new) (head ∷ s)

  -- AN OBJECT IS INSERTED BESIDE the place `at`, or its link is refused and nothing changes. `beside at object back` is the part of the ring from
  -- there on. If `at` is the head of a ring with the members s, the object is inserted into their gap `end s`
  pub record InsertsBesidePlace {T : Type 0} (Refused : L → L → Place → Type 0) (beside : Place → Place → List Place → List Place) (end : List Place → Cut)
      (old : L) (at object : Place) (result : Result Unit (AlreadyLinked T)) (new : L) : Type 0 where
    pub inserted : (head : Place) (front back : List Place) → Represents neighbors (table old) head (front ++ at ∷ back)
        → OnOk result (Represents neighbors (table new) head (front ++ beside at object back))
    pub at_head : (s : List Place) → Represents neighbors (table old) at s → OnOk result (Represents neighbors (table new) at (insert (end s) object))
    pub acquired : OnOk result (Trace old new (acquires object ∷ []))
    pub refused : OnErr result (Refused old new object)
    pub unchanged : IfErr result (λ refused. refused.0 ≡ object)
    pub others : OthersStay neighbors (table old) (table new) (at ∷ [])
    pub frame : (r : List Place) → IsRingOf neighbors (table old) at r → ChangesOnlyIn (table old) (table new) (object ∷ r)

  -- A LINKED OBJECT MOVES BESIDE the place `at` from whichever ring it is in. `beside` and `end` are those of an insertion
  pub record MovesBesidePlace (beside : Place → Place → List Place → List Place) (end : List Place → Cut) (old : L) (at object : Place) (new : L) : Type 0 where
    pub moved : (head : Place) (front back : List Place) → RepresentsBeside neighbors (table old) object head (front ++ at ∷ back)
        → Represents neighbors (table new) head (front ++ beside at object back)
    pub at_head : (s : List Place) → RepresentsBeside neighbors (table old) object at s → Represents neighbors (table new) at (insert (end s) object)
    pub left : (head : Place) (s : List Place) → RepresentsBeside neighbors (table old) object head s → IsAbsent at (head ∷ s)
        → Represents neighbors (table new) head s
    pub trace_stays : Trace old new []
    pub others : OthersStay neighbors (table old) (table new) (at ∷ object ∷ [])
    pub frame : (r s : List Place) → IsRingOf neighbors (table old) at r → IsRingOf neighbors (table old) object s
        → ChangesOnlyIn (table old) (table new) (r ++ s)

  -- A LINKED OBJECT MOVES TO AN END of the ring with this head, into the gap `end s` of the members s that the ring has without the object
  pub record MovesToEnd (end : List Place → Cut) (head : Place) (old : L) (object : Place) (new : L) : Type 0 where
    pub moved : (s : List Place) → RepresentsBeside neighbors (table old) object head s → Represents neighbors (table new) head (insert (end s) object)
    pub left : (other : Place) (s : List Place) → RepresentsBeside neighbors (table old) object other s → IsAbsent head (other ∷ s)
        → Represents neighbors (table new) other s
    pub trace_stays : Trace old new []
    pub others : OthersStay neighbors (table old) (table new) (head ∷ object ∷ [])
    pub frame : (s r : List Place) → Represents neighbors (table old) head s → IsRingOf neighbors (table old) object r
        → ChangesOnlyIn (table old) (table new) ((head ∷ s) ++ r)
