-- The rule that the table of claim words keeps, and what a holder knows after each kind of step.
use Rattle.std.specs.Prelude.{◌≡◌, ℕ, ◌+◌, ◌<◌, false, List, [], ◌∷◌, ◌++◌, length, replicate}
use Rattle.atomic_table.specs.Table.{State, Me, Step as TableStep}
use Rattle.ic_link_ops.specs.Prelude.{Place, index_of}
use Rattle.ic_atomic.specs.declared.step.Step.{Step}
use Rattle.ic_atomic.specs.declared.step.Step.TheVariants.{Claim, Release, Look}
use Rattle.ic_atomic.specs.declared.step.Event.{Event}
use Rattle.ic_atomic.specs.declared.held.Size.{Size}
use Rattle.ic_atomic.specs.declared.held.HeldRecords.{HeldRecords}
use Rattle.ic_atomic.specs.Records.{event, holds}
use Rattle.ic_atomic.specs.OneList.{record_at, IsOneList}
use Rattle.ic_atomic.specs.Held.{hand, records_in}

-- The numbers of claim words and of records in all hands are those of `size`, and the records can be merged into one list of steps (`IsOneList`)
pub record Rule (size : Size) (s : State (Unit {0}) HeldRecords) : Type 0 where
  pub words : length s.words ≡ size.words
  pub holders : length (records_in s.views) ≡ size.holders
  pub one : IsOneList s.words (records_in s.views)

-- at first one hand has the records of all holders, and each record is empty
abbrev pub all_fresh : Size → HeldRecords
all_fresh size = hand size (replicate size.holders [])

-- what a seat knows: the records in its hand. The seat has no slots
abbrev pub Mine : Type 0
Mine = Me (Unit {0}) HeldRecords

-- the first record in a hand, which is the record of the holder that has the hand
abbrev pub mine : HeldRecords → List Event
mine v = record_at v.records 0

-- the hand `new` has only the first record of the hand `old`, which has gained the step s and the word `found` that this step found
pub record Gains (s : Step) (found : ℕ) (old new : HeldRecords) : Type 0 where
  pub gained : new ≡ hand old.size ((mine old ++ event s found ∷ []) ∷ [])

-- After a compare-exchange the record gains a claim that found the word n, which is 0 or 1. The word is 0 only if this holder did not hold the place
abbrev pub claimed : TableStep (Unit {0}) → Mine → ℕ → Mine → Type 0
claimed t me n me' =
    (n < 2) × ((p : Place) → index_of p ≡ t.word → Gains (Claim p) n me.0 me'.0 × (n ≡ 0 → holds p (mine me.0) ≡ false))

-- After a store that releases a place the record gains a release. The store finds 1, because the holder holds the place
abbrev pub released : TableStep (Unit {0}) → Mine → ℕ → Mine → Type 0
released t me n me' = (p : Place) → index_of p ≡ t.word → Gains (Release p) 1 me.0 me'.0

-- After a load of a claim word the record gains a look that found the word n, which is 0 or 1
abbrev pub looked : TableStep (Unit {0}) → Mine → ℕ → Mine → Type 0
looked t me n me' = (n < 2) × ((p : Place) → index_of p ≡ t.word → Gains (Look p) n me.0 me'.0)

-- a new seat has no record
abbrev pub seated : TableStep (Unit {0}) → Mine → ℕ → Mine → Type 0
seated t me n me' = me'.0 ≡ hand me.0.size []

-- at one moment, the records of the hand v and the records of all other hands can be merged into one list of steps
pub record Compares (v : HeldRecords) : Type 0 where
  pub others : List (List Event)
  pub all : length v.records + length others ≡ v.size.holders
  pub words : List ℕ
  pub counted : length words ≡ v.size.words
  pub one : IsOneList words (v.records ++ others)

-- after a load the seat knows that, at one moment, its records and the records of all other seats could be merged into one list of steps. The hand of the seat
-- stays as it is
abbrev pub compared : TableStep (Unit {0}) → Mine → ℕ → Mine → Type 0
compared t me n me' = (me'.0 ≡ me.0) × Compares me.0
