-- A run is a sequence of places with consecutive numbers. This file says what a call does that inserts a run. The definitions are the same for every
-- kind of lists.
use Rattle.std.specs.Prelude.{◌≡◌, ℕ, zero, suc, ◌+◌, ◌-◌, Bool, List, [], ◌∷◌, length, map, Option, Some}
use Rattle.ic_link_ops.specs.Prelude.{Place, Cut, join, Table, acquires, table_of, Splices}
use Rattle.ic_raw.specs.declared.status.TheConstants.{OK}
use Rattle.ic_raw.specs.Answers.{IsAccepted}
use Rattle.ic_raw.specs.Calls.{RepresentsList}
use Rattle.ic_raw.specs.Tables.{IsFree}
use Rattle.ic_raw.specs.Touches.{Touches}
use Rattle.ic_raw.specs.Words.{place_of}

-- A LIST IS THE RUN FROM A NUMBER: its places have the numbers `first`, `first` + 1, and so on
abbrev pub IsRun : (first : ℕ) → List Place → Type 0
IsRun first [] = Unit {0}
IsRun first (p ∷ run) = (place_of first ≡ Some p) × IsRun (first + 1) run

-- `run_faults` is the list of the faults of `count` places, whose numbers are `first`, `first` + 1, and so on
abbrev pub run_faults : (fault : Option Place → ℕ) → (first count : ℕ) → List ℕ
run_faults fault first zero = []
run_faults fault first (suc count) = fault (place_of first) ∷ run_faults fault (first + 1) count

-- `first_fault` is the first fault in the list, or `OK` if the list has no fault
abbrev pub first_fault : (faults : List ℕ) → ℕ
first_fault [] = OK
first_fault (zero ∷ faults) = first_fault faults
first_fault (suc fault ∷ faults) = suc fault

-- each place of the list belongs to the table and is not linked
abbrev pub AreFree : {E : Type 0} → (linked : E → Bool) → Table E → List Place → Type 0
AreFree linked t [] = Unit {0}
AreFree linked t (p ∷ run) = IsFree linked t p × AreFree linked t run

-- THE RUN IS FREE: each of the `count` places from the number `first` on belongs to the table and is not linked
pub record IsFreeRun {E : Type 0} (linked : E → Bool) (t : Table E) (first count : ℕ) : Type 0 where
  pub run : List Place
  pub numbered : IsRun first run
  pub counted : length run ≡ count
  pub free : AreFree linked t run

-- `last_of_run` is the last one of the `count` places from the number `first` on
abbrev pub last_of_run : (first count : ℕ) → Option Place
last_of_run first count = place_of (first + (count - 1))

-- WHAT A FILL TOUCHES: the call links the places of `run` in their order, and inserts them after the place `end`. It changes only the entries of
-- these places and of `end`
abbrev pub TouchesRun : {E : Type 0} → (linked : E → Bool) → (old new : Table E) → (run : List Place) → (end : Option Place) → Type 0
TouchesRun linked old new run end = Touches linked old new (map acquires run) (end ∷ map Some run)

-- `Represents`, `linked`, `unlinked` and `head_of` describe one kind of lists. The file Calls explains these names
module _ {W R H : Type 0} (Represents : Table W → H → List Place → Type 0) (linked : W → Bool) (unlinked : W) (head_of : R → H) where
  -- if the table represents the list and the run is free, the call inserts the run at the position `cut`
  abbrev pub Filled : (old new : List W) (list list' : R) (status : ℕ) → Cut → (first count : ℕ) → Type 0
  Filled old new list list' status cut first count =
      RepresentsList Represents linked unlinked head_of old list (join cut) → (free : IsFreeRun linked (table_of unlinked old) first count)
      → IsAccepted status (Splices Represents (table_of unlinked old) (table_of unlinked new) (head_of list') cut free.run)
