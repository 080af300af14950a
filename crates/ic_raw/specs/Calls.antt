-- The definitions of this file say how a call changes the words of a table and of a list, if these words represent a sequence. The definitions are
-- the same for every kind of lists.
use Rattle.std.specs.Prelude.{◌≡◌, ◌⊎◌, ℕ, Bool, ◌∷◌, ◌++◌, List, Option}
use Rattle.ic_link_ops.specs.Prelude.{Place, Cut, join, IsDisjoint, IsMember, Table, IsLinked, IsUnlinked, ChangesOnlyIn, table_of, Inserts, Removes, Replaces, Splices, Splits}
use Rattle.ic_raw.specs.Answers.{IsAccepted}
use Rattle.ic_raw.specs.Gaps.{before, IsNoneOrLinked}
use Rattle.ic_raw.specs.Tables.{IsFree, member_fault, place_fault}
use Rattle.ic_raw.specs.Words.{HasNumber}

-- each member of s is unlinked in the table `new`, and only the entries of these members have changed
pub record Clears {E : Type 0} (linked : E → Bool) (old new : Table E) (s : List Place) : Type 0 where
  pub unlinked : (p : Place) → IsMember p s → IsUnlinked linked new p
  pub frame : ChangesOnlyIn old new s

-- LINKED PLACES ARE UNLINKED, AND NOTHING ELSE CHANGES: each entry of `new` is equal to that of `old`, or it is the result of `off` for the old entry
-- of a linked place
pub record OnlyUnlinks {E : Type 0} (linked : E → Bool) (off : E → E) (old new : Table E) : Type 0 where
  pub extent : new.extent ≡ old.extent
  pub entries : (q : Place) → (new.entry q ≡ old.entry q) ⊎ (IsLinked linked old q × (new.entry q ≡ off (old.entry q)))

-- `Represents t head s` says that the table t represents the sequence s as the list with this head. `head_of` reads the ends of a list from its
-- words. `old` and `list` are the words before the call, and `new` and `list'` are the words after it
module _ {W R H : Type 0} (Represents : Table W → H → List Place → Type 0) (linked : W → Bool) (unlinked : W) (head_of : R → H) where
  -- the table of the words `words` represents the sequence s as the list that has the words `list`
  abbrev pub RepresentsList : List W → R → List Place → Type 0
  RepresentsList words list s = Represents (table_of unlinked words) (head_of list) s

  -- the place belongs to the table of these words and is not linked
  abbrev pub FreeIn : List W → Place → Type 0
  FreeIn words = IsFree linked (table_of unlinked words)

  -- `at` is none, or it is a linked place of the table of these words
  abbrev pub IsNoneOrLinkedIn : List W → Option Place → Type 0
  IsNoneOrLinkedIn words at = IsNoneOrLinked linked (table_of unlinked words) at

  -- `fault_at` is the fault of a member that the caller names, and `fault_of` is the fault of a place that the caller wants to insert. Each is `OK`
  -- if there is no fault
  abbrev pub fault_at : List W → Option Place → ℕ
  fault_at words = member_fault linked (table_of unlinked words)

  abbrev pub fault_of : List W → Option Place → ℕ
  fault_of words = place_fault linked (table_of unlinked words)

  module _ (old new : List W) (list list' : R) (status : ℕ) where
    -- if the table represents the list and p is free, the call inserts p into the list at the position `cut`
    abbrev pub Inserted : Cut → Place → Type 0
    Inserted cut p =
        RepresentsList old list (join cut) → FreeIn old p → IsAccepted status (Inserts Represents (table_of unlinked old) (table_of unlinked new) (head_of list') cut p)

    -- if the list has the member `out` between `front` and `back`, the call removes and unlinks `out`
    abbrev pub Removed : Place → (front back : List Place) → Type 0
    Removed out front back =
        RepresentsList old list (front ++ out ∷ back) → IsAccepted status
        (Removes Represents (table_of unlinked old) (table_of unlinked new) (head_of list') (before out front back) × IsUnlinked linked (table_of unlinked new) out)

    -- if the list has the member `out` between `front` and `back`, the call removes and unlinks `out`, and `number` is the number of `out`
    abbrev pub Popped : ℕ → Place → (front back : List Place) → Type 0
    Popped number out front back =
        RepresentsList old list (front ++ out ∷ back) → IsAccepted status
        (Removes Represents (table_of unlinked old) (table_of unlinked new) (head_of list') (before out front back) × IsUnlinked linked (table_of unlinked new) out
        × HasNumber out number)

    -- if the list has the member `out` and p is free, the call inserts p at the position of `out`, and removes and unlinks `out`
    abbrev pub Replaced : Place → (front back : List Place) → Place → Type 0
    Replaced out front back p =
        RepresentsList old list (front ++ out ∷ back) → FreeIn old p → IsAccepted status
        (Replaces Represents (table_of unlinked old) (table_of unlinked new) (head_of list') (before out front back) p × IsUnlinked linked (table_of unlinked new) out)

    -- if the list has the member `out` and p is free, the call inserts p at the position of `out`, and removes and unlinks `out`. `number` is the
    -- number of `out`
    abbrev pub Exchanged : ℕ → Place → (front back : List Place) → Place → Type 0
    Exchanged number out front back p =
        RepresentsList old list (front ++ out ∷ back) → FreeIn old p → IsAccepted status
        (Replaces Represents (table_of unlinked old) (table_of unlinked new) (head_of list') (before out front back) p × IsUnlinked linked (table_of unlinked new) out
        × HasNumber out number)

    -- if the list `given` has the members t and shares none with the list, the call moves all of t into the list at the position `cut`
    abbrev pub Spliced : R → Cut → List Place → Type 0
    Spliced given cut t =
        RepresentsList old list (join cut) → RepresentsList old given t → IsDisjoint t (join cut)
        → IsAccepted status (Splices Represents (table_of unlinked old) (table_of unlinked new) (head_of list') cut t)

    -- if the table represents the list, the call cuts it in two: the list keeps the members `kept`, and the list with the words `rest` gets the
    -- members `handed`
    abbrev pub Split : R → Cut → (kept handed : List Place) → Type 0
    Split rest cut kept handed =
        RepresentsList old list (join cut)
        → IsAccepted status (Splits Represents (table_of unlinked old) (table_of unlinked new) (head_of list') (head_of rest) kept handed)

    -- if the table represents s as the list, the call unlinks each member of s
    abbrev pub Cleared : List Place → Type 0
    Cleared s = RepresentsList old list s → IsAccepted status (Clears linked (table_of unlinked old) (table_of unlinked new) s)
