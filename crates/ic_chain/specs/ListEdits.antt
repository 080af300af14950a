-- What an edit of a list does. `list` and `old` are the list and the links before the call, and `new_list` and `new` are the two after the call.
use Rattle.std.specs.Prelude.{◌≡◌, ◌≢◌, Option, Some, Result, OnOk, OnErr, IfErr, IfSome, IfNone, List, [], ◌∷◌, ◌++◌}
use Rattle.ic_link_ops.specs.Prelude.{Place, Table, Cut, insert, first, last, IsAbsent, ChangesOnlyIn, acquires, releases, LinkStep, ListHead, TurnsEnds}
use Rattle.ic_link_ops.specs.declared.errors.AlreadyLinked.{AlreadyLinked}

-- `Represents`: which sequence a table represents for a list. `table` turns the links into a table, and `Trace` lists the steps that acquire and release
-- links
module _ {L E H : Type 0} (Represents : Table E → H → List Place → Type 0) (table : L → Table E) (Trace : L → L → List LinkStep → Type 0) where
  -- AN OBJECT IS PUSHED into the gap `end s` of the members s, or its link is refused and the list is as it was
  pub record PushesAtEnd {T : Type 0} (Refused : L → L → Place → Type 0) (end : List Place → Cut)
      (list : H) (old : L) (object : Place) (result : Result Unit (AlreadyLinked T)) (new_list : H) (new : L) : Type 0 where
    pub inserted : (s : List Place) → Represents (table old) list s → OnOk result (Represents (table new) new_list (insert (end s) object))
    pub acquired : OnOk result (Trace old new (acquires object ∷ []))
    pub refused : OnErr result (Refused old new object)
    pub unchanged : IfErr result (λ refused. (refused.0 ≡ object) × (new_list ≡ list))
    pub frame : (s : List Place) → Represents (table old) list s → ChangesOnlyIn (table old) (table new) (object ∷ s)

  -- A MEMBER IS POPPED. Of the members s, the call returns the member `taken s` and leaves the members `rest s`. From an empty list the call returns none,
  -- and nothing changes
  pub record PopsAtEnd (taken : List Place → Option Place) (rest : List Place → List Place)
      (list : H) (old : L) (result : Option Place) (new_list : H) (new : L) : Type 0 where
    pub answer : (s : List Place) → Represents (table old) list s → result ≡ taken s
    pub removed : (s : List Place) → Represents (table old) list s → Represents (table new) new_list (rest s)
    pub released : IfSome result (λ object. Trace old new (releases object ∷ []))
    pub empty : IfNone result ((new_list ≡ list) × (new ≡ old))
    pub frame : (s : List Place) → Represents (table old) list s → ChangesOnlyIn (table old) (table new) s

  -- A MEMBER MOVES TO AN END of the list, into the gap `end s` of the other members s. The member stays linked
  pub record MovesToEnd (end : List Place → Cut) (list : H) (old : L) (object : Place) (new_list : H) (new : L) : Type 0 where
    pub moved : (front back : List Place) → Represents (table old) list (front ++ object ∷ back)
        → Represents (table new) new_list (insert (end (front ++ back)) object)
    pub trace_stays : Trace old new []
    pub frame : (s : List Place) → Represents (table old) list s → ChangesOnlyIn (table old) (table new) s

-- A LINKED PLACE COMES BETWEEN TWO NEIGHBORS, and the places `out` that were between them leave the list. `NamesPrev`: the entries of the kind name the
-- previous place. Every field except `shows` also holds if the table represents no sequence for the list
pub record ComesBetween {L E W : Type 0} (Represents : Table E → ListHead W → List Place → Type 0) (table : L → Table E) (Trace : L → L → List LinkStep → Type 0)
    (kept : Option Place → W) (NamesPrev : Type 0) (out : List Place)
    (list : ListHead W) (old : L) (before : Option Place) (place : Place) (after : Option Place) (new_list : ListHead W) (new : L) : Type 0 where
  pub shows : (front back : List Place) → Represents (table old) list (front ++ (out ++ back)) → before ≡ last front → after ≡ first back
      → IsAbsent place (front ++ (out ++ back)) → Represents (table new) new_list (front ++ place ∷ back)
  pub ends : TurnsEnds kept list new_list before after (Some place) (Some place)
  pub trace_stays : Trace old new []
  pub extent : (table new).extent ≡ (table old).extent
  pub others : (q : Place) → before ≢ Some q → q ≢ place → (NamesPrev → after ≢ Some q) → (table new).entry q ≡ (table old).entry q
