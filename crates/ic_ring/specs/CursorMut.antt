-- The parts of an editing cursor of a ring that contracts name, and what its edits keep.
use Rattle.std.specs.Prelude.{◌≡◌, Result, OnOk, OnErr, IfErr, List, [], ◌∷◌, ◌++◌}
use Rattle.std.specs.Borrow.{MutBor}
use Rattle.ic_link_ops.specs.Prelude.{Place, Table, Cut, join, insert, splice, ChangesOnlyIn, acquires, LinkStep, Neighbors}
use Rattle.ic_link_ops.specs.declared.errors.AlreadyLinked.{AlreadyLinked}
use Rattle.ic_ring.specs.Rings.{Represents, OthersStay}
use Rattle.ic_ring.specs.RingCursors.{IsValidCursor}
use Rattle.ic_ring.specs.declared.cursor_mut.CursorMut.{CursorMut}

module _ {T L : Type 0} where
  -- the table that the cursor edits. `head_of` is the head of its ring, and `at_of` is the place that the cursor is on
  abbrev pub links_of : CursorMut T L → L
  links_of c = c.links.now

  abbrev pub head_of : CursorMut T L → Place
  head_of c = c.head

  abbrev pub at_of : CursorMut T L → Place
  at_of c = c.at

  -- the cursor borrows the given table, and has not changed it
  abbrev pub IsBorrowed : MutBor L → CursorMut T L → Type 0
  IsBorrowed links c = (c.links.ghost_name ≡ links.ghost_name) × (c.links.now ≡ links.now)

  -- the new cursor edits the same ring of the same table as the old cursor
  abbrev pub SameRing : CursorMut T L → CursorMut T L → Type 0
  SameRing old new = (head_of new ≡ head_of old) × (new.links.ghost_name ≡ old.links.ghost_name)

  module _ {E : Type 0} (neighbors : E → Neighbors) (table : L → Table E) where
    -- THE TABLE REPRESENTS the members s, in this order, for the ring of the cursor
    abbrev pub RepresentsAt : CursorMut T L → List Place → Type 0
    RepresentsAt c s = Represents neighbors (table (links_of c)) (head_of c) s

    -- THE CURSOR IS VALID: it is on a member or on the head of its ring
    abbrev pub IsValid : CursorMut T L → Type 0
    IsValid c = IsValidCursor neighbors (table (links_of c)) (head_of c) (at_of c)

    -- THE CURSOR MOVES in its ring, and the table does not change. `Leads` says which moves the call makes: those to the next member (`MovesOn`) or those
    -- to the previous member (`MovesBack`)
    pub record Moves (Leads : (E → Neighbors) → Table E → Place → Place → Place → Type 0) (old new : CursorMut T L) : Type 0 where
      pub moved : Leads neighbors (table (links_of old)) (head_of old) (at_of old) (at_of new)
      pub stands : IsValid new
      pub same : SameRing old new
      pub links : links_of new ≡ links_of old

    -- no entries are changed except the entries of the places `and s`, if s are the members of the old ring. `and` adds the head and the places of
    -- the edit to s
    abbrev pub ChangesOnlyInRing : CursorMut T L → CursorMut T L → (List Place → List Place) → Type 0
    ChangesOnlyInRing old new and = (s : List Place) → RepresentsAt old s → ChangesOnlyIn (table (links_of old)) (table (links_of new)) (and s)

    -- AN EDIT LEAVES THE CURSOR in its ring, and changes no other ring. No entries are changed except the entries of the places `and s`, if s are the
    -- members of the old ring
    pub record StaysInRing (old new : CursorMut T L) (and : List Place → List Place) : Type 0 where
      pub stands : IsValid new
      pub same : SameRing old new
      pub others : OthersStay neighbors (table (links_of old)) (table (links_of new)) (head_of old ∷ [])
      pub frame : ChangesOnlyInRing old new and

    -- `Trace` lists the steps that acquire and release links, and `IsBeside head gap at` says on which side of the cursor the gap is
    module _ (Trace : L → L → List LinkStep → Type 0) where
      -- AN OBJECT IS INSERTED into the gap beside the cursor, or its link is refused and nothing changes. The cursor stays where it is
      pub record InsertsAtCursor (Refused : L → L → Place → Type 0) (IsBeside : Place → Cut → Place → Type 0)
          (old : CursorMut T L) (object : Place) (result : Result Unit (AlreadyLinked T)) (new : CursorMut T L) : Type 0 where
        pub inserted : (gap : Cut) → RepresentsAt old (join gap) → IsBeside (head_of old) gap (at_of old) → OnOk result (RepresentsAt new (insert gap object))
        pub acquired : OnOk result (Trace (links_of old) (links_of new) (acquires object ∷ []))
        pub refused : OnErr result (Refused (links_of old) (links_of new) object)
        pub unchanged : IfErr result (λ refused. refused.0 ≡ object)
        pub at : at_of new ≡ at_of old
        pub kept : StaysInRing old new (λ s. object ∷ head_of old ∷ s)

      -- ALL MEMBERS OF THE RING with the head `given` move into the gap beside the cursor. The cursor stays where it is
      pub record SplicesAtCursor (IsBeside : Place → Cut → Place → Type 0) (old : CursorMut T L) (given : Place) (new : CursorMut T L) : Type 0 where
        pub spliced : (gap : Cut) (t : List Place) → RepresentsAt old (join gap) → IsBeside (head_of old) gap (at_of old)
            → Represents neighbors (table (links_of old)) given t
            → RepresentsAt new (splice gap t) × Represents neighbors (table (links_of new)) given []
        pub trace_stays : Trace (links_of old) (links_of new) []
        pub at : at_of new ≡ at_of old
        pub stands : IsValid new
        pub others : OthersStay neighbors (table (links_of old)) (table (links_of new)) (head_of old ∷ given ∷ [])
        pub frame : (t : List Place) → Represents neighbors (table (links_of old)) given t → ChangesOnlyInRing old new (λ s. (head_of old ∷ s) ++ (given ∷ t))
        pub same : SameRing old new
