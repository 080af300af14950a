-- A pool that threads share: what the record of a holder gains by a call that takes an object.
use Rattle.std.specs.Prelude.{◌≡◌, ℕ, ◌+◌, ◌<◌, List, [], ◌∷◌, ◌++◌, length}
use Rattle.ic_link_ops.specs.Prelude.{Place, index_of}
use Rattle.ic_atomic.specs.declared.step.Step.TheVariants.{Claim}
use Rattle.ic_atomic.specs.declared.step.Event.{Event}
use Rattle.ic_atomic.specs.Records.{event, HoldsAlso, HoldsTheSame}

-- each place of the list is claimed once, in order, and each claim is refused because it finds the word 1 at its place. The function lists the events of
-- these claims
abbrev pub refusals : List Place → List Event
refusals [] = []
refusals (p ∷ ps) = event (Claim p) 1 ∷ refusals ps

-- the first place of the list has the index `from`, and the index of each later place is one more than that of the place before it
abbrev pub IsRow : ℕ → List Place → Type 0
IsRow from [] = Unit {0}
IsRow from (p ∷ ps) = (index_of p ≡ from) × IsRow (from + 1) ps

-- the first `count` places were claimed, each once and in order, and every claim was refused
pub record WereRefused (count : ℕ) (old new : List Event) : Type 0 where
  pub tried : List Place
  pub row : IsRow 0 tried
  pub count_is : length tried ≡ count
  pub gained : new ≡ old ++ refusals tried

-- the claims of all places with smaller indices than `place` were refused, and then the claim of `place` succeeded. The holder holds `place` in addition to
-- what it held before
pub record TakesOut (places : ℕ) (old new : List Event) (place : Place) : Type 0 where
  pub inside : index_of place < places
  pub refused : List Event
  pub before : WereRefused (index_of place) old refused
  pub had : new ≡ refused ++ event (Claim place) 0 ∷ []
  pub held : HoldsAlso old new place

-- the claim of every place was refused, and the holder holds the places that it held before
pub record TakesNone (places : ℕ) (old new : List Event) : Type 0 where
  pub refused : WereRefused places old new
  pub held : HoldsTheSame old new
