-- What the edit of a list by a plain call does. A name with a stroke is a state after the call.
use Rattle.std.specs.Prelude.{◌≡◌, Bool, Option, IfSome, IfNone, List, ◌∷◌, ◌++◌}
use Rattle.ic_link_ops.specs.Prelude.{Place, Cut, insert, Table, LinksAlso, Unlinks, KeepsLinked, ChangesOnlyIn}

-- `Represents t list s` says that the table t represents the sequence s for the list. `is_linked` says whether an entry is that of a linked place
module _ {E H : Type 0} (Represents : Table E → H → List Place → Type 0) (is_linked : E → Bool) where
  -- AN OBJECT IS PUSHED into the gap `end s` of the members s
  pub record Pushes (end : List Place → Cut) (t : Table E) (list : H) (object : Place) (t' : Table E) (list' : H) : Type 0 where
    pub shown : (s : List Place) → Represents t list s → Represents t' list' (insert (end s) object)
    pub shows : (s : List Place) × Represents t' list' s
    pub linked : LinksAlso is_linked t t' object
    pub frame : (s : List Place) → Represents t list s → ChangesOnlyIn t t' (object ∷ s)

  -- A MEMBER MOVES into the gap `end s` of the members s that the list has without the object
  pub record Moves (end : List Place → Cut) (t : Table E) (list : H) (object : Place) (t' : Table E) (list' : H) : Type 0 where
    pub shown : (front back : List Place) → Represents t list (front ++ object ∷ back) → Represents t' list' (insert (end (front ++ back)) object)
    pub shows : (s : List Place) × Represents t' list' s
    pub linked : KeepsLinked is_linked t t'
    pub frame : (s : List Place) → Represents t list s → ChangesOnlyIn t t' s

  -- A MEMBER IS POPPED. Of the members s, the call returns the member `taken s` and leaves the members `rest s`. `table` turns the links into a table
  pub record Pops {L : Type 0} (table : L → Table E) (taken : List Place → Option Place) (rest : List Place → List Place)
      (links : L) (list : H) (result : Option Place) (links' : L) (list' : H) : Type 0 where
    pub answer : (s : List Place) → Represents (table links) list s → result ≡ taken s
    pub shown : (s : List Place) → Represents (table links) list s → Represents (table links') list' (rest s)
    pub shows : (s : List Place) × Represents (table links') list' s
    pub unlinked : IfSome result (λ object. Unlinks is_linked (table links) (table links') object)
    pub empty : IfNone result ((list' ≡ list) × (links' ≡ links))
    pub frame : (s : List Place) → Represents (table links) list s → ChangesOnlyIn (table links) (table links') s
