-- What follows if two calls are made on one list, one after the other. These definitions serve every kind of list.
use Rattle.std.specs.Prelude.{◌≡◌, Bool, Option, Some, IfSome, List, [], ◌∷◌}
use Rattle.ic_link_ops.specs.Prelude.{Place, Cut, insert, IsAfter, Table, ChangesOnlyIn, KeepsLinked, CursorState, RepresentsAt, IsValidCursor, LinkStep, acquires, releases, SplicesBeside, SplitsAfter}
use Rattle.ic_link_ops.specs.TwoLists.{AreApart}

-- `Represents`: which sequence of members a table represents for a head. `table`: the entries of a table. `Trace`: which links the table has acquired
-- and released between two states. `old`, `new`: the states before the calls and after the calls
module _ {L E H : Type 0} (Represents : Table E → H → List Place → Type 0) (table : L → Table E) (Trace : L → L → List LinkStep → Type 0) where
  -- THE COLLECTION IS AS IT WAS: the table represents the same sequence, and no entries are changed except those of members. The position is the
  -- same, and no link was acquired or released
  pub record IsAsItWas (old new : CursorState L H) : Type 0 where
    pub sequence : (s : List Place) → RepresentsAt Represents table old s → RepresentsAt Represents table new s
    pub frame : (s : List Place) → RepresentsAt Represents table old s → ChangesOnlyIn (table old.links) (table new.links) s
    pub position : new.position ≡ old.position
    pub trace_stays : Trace old.links new.links []

  -- THE TWO PARTS OF A SPLIT are both represented by the table, and they share no member. Therefore one part may be spliced into the other part
  abbrev pub SplitsApart : Type 0
  SplitsApart = (old split : CursorState L H) (handed : H) → IsValidCursor Represents table old → SplitsAfter Represents table Trace old handed split
      → AreApart Represents (table split.links) split.head handed split.position

  -- A SPLIT AND THEN A SPLICE leave the collection as it was, if the splice inserts the removed members after the same position
  abbrev pub SplitThenSplice : Type 0
  SplitThenSplice = (old split new : CursorState L H) (handed : H) → IsValidCursor Represents table old → SplitsAfter Represents table Trace old handed split
      → SplicesBeside Represents table Trace IsAfter split handed new → IsAsItWas old new

  -- AN ACCEPTED PUSH inserts the object into the gap at one end of the sequence, and acquires its link. The positions in `old` and `new` play no part
  -- in this statement
  pub record Pushes (gap_at : List Place → Cut) (old : CursorState L H) (object : Place) (new : CursorState L H) : Type 0 where
    pub inserted : (s : List Place) → RepresentsAt Represents table old s → RepresentsAt Represents table new (insert (gap_at s) object)
    pub acquired : Trace old.links new.links (acquires object ∷ [])
    pub frame : (s : List Place) → RepresentsAt Represents table old s → ChangesOnlyIn (table old.links) (table new.links) (object ∷ s)

  -- A POP removes the member at one end of the sequence, if there is one, returns this member and releases its link
  pub record Pops (member_at : List Place → Option Place) (rest_of : List Place → List Place) (old : CursorState L H) (result : Option Place)
      (new : CursorState L H) : Type 0 where
    pub answer : (s : List Place) → RepresentsAt Represents table old s → result ≡ member_at s
    pub removed : (s : List Place) → RepresentsAt Represents table old s → RepresentsAt Represents table new (rest_of s)
    pub released : IfSome result (λ object. Trace old.links new.links (releases object ∷ []))
    pub frame : (s : List Place) → RepresentsAt Represents table old s → ChangesOnlyIn (table old.links) (table new.links) s

  module _ (is_linked : E → Bool) where
    -- THE OBJECT COMES BACK: the second call returns the object that the first call inserted into the sequence s. The table represents s again, the
    -- same places are linked, and no entries are changed except those of members and of the object
    pub record GivesBack (old : CursorState L H) (s : List Place) (object : Place) (result : Option Place) (new : CursorState L H) : Type 0 where
      pub answer : result ≡ Some object
      pub sequence : RepresentsAt Represents table new s
      pub linked : KeepsLinked is_linked (table old.links) (table new.links)
      pub frame : ChangesOnlyIn (table old.links) (table new.links) (object ∷ s)

    -- A PUSH AND THEN A POP at one end return the pushed object. `gap_at`: the gap at this end of a sequence. `member_at`: the member at this end.
    -- `rest_of`: all members except the member at this end
    abbrev pub PushThenPop : (List Place → Cut) → (List Place → Option Place) → (List Place → List Place) → Type 0
    PushThenPop gap_at member_at rest_of = (old pushed new : CursorState L H) (object : Place) (result : Option Place) (s : List Place)
        → RepresentsAt Represents table old s → Pushes gap_at old object pushed → Pops member_at rest_of pushed result new → GivesBack old s object result new
