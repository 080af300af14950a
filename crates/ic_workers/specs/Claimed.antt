-- What workers have claimed: each worker has tried to claim each of the first places once, and the records of all workers are parts of one list of
-- steps.
use Rattle.std.specs.Prelude.{◌≡◌, ◌<◌, ℕ, ◌+◌, Bool, List, [], ◌∷◌, length}
use Rattle.std.specs.List.{AllZip}
use Rattle.ic_link_ops.specs.Prelude.{Place, index_of}
use Rattle.ic_atomic.specs.declared.step.Event.{Event}
use Rattle.ic_atomic.specs.Gathering.{claims_of_each, chosen}
use Rattle.ic_atomic.specs.OneList.{IsOneList}

-- the list has places with neighboring indexes: the first place has the index `from`, and each further index is one more than the index before it
abbrev pub IsRow : ℕ → List Place → Type 0
IsRow from [] = Unit {0}
IsRow from (p ∷ s) = (index_of p ≡ from) × IsRow (from + 1) s

-- a holder has claimed each of the first places once: its record `record_is` has one claim of each of the first `places` places, in order. `list` has the
-- places whose claims succeeded
pub record ClaimedEach (places : ℕ) (record_is : List Event) (list : List Place) : Type 0 where
  pub offered : List Place
  pub row : IsRow 0 offered
  pub long : length offered ≡ places
  pub got : List Bool
  pub each : length got ≡ length offered
  pub claimed : record_is ≡ claims_of_each offered got
  pub are : list ≡ chosen offered got

-- the records of all workers can be merged into one list of steps, and each worker's list of places follows from the worker's record
pub record ClaimedAsOneList (workers places : ℕ) (lists : List (List Place)) : Type 0 where
  -- there is one record for each worker
  pub records : List (List Event)
  pub each : length records ≡ workers
  -- a record has one claim of each of the first places, in order, and the worker's list has the places whose claims succeeded
  pub claimed : AllZip (ClaimedEach places) records lists
  -- there is one more claim word than there are places
  pub words : List ℕ
  pub covers : places < length words
  -- the rule of claims holds for the claim words and these records
  pub one : IsOneList words records
