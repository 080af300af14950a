-- Claims of several places by one holder, the places that the holder got, and the order in which the holder calls a gate.
use Rattle.std.specs.Prelude.{ℕ, zero, suc, Bool, if◌then◌else◌, List, [], ◌∷◌}
use Rattle.ic_unsafe_ref.specs.declared.place.Place.{Place}
use Rattle.ic_atomic.specs.declared.step.Step.TheVariants.{Claim}
use Rattle.ic_atomic.specs.declared.step.Event.{Event}
use Rattle.ic_atomic.specs.Records.{event}

-- the events of one claim of each place, in order. The claim found the word 0 if `got` has true for the place, and otherwise 1
abbrev pub claims_of_each : List Place → List Bool → List Event
claims_of_each [] got = []
claims_of_each (p ∷ ps) [] = []
claims_of_each (p ∷ ps) (b ∷ got) = event (Claim p) (if b then 0 else 1) ∷ claims_of_each ps got

-- the places whose claims succeeded, which are those for which `got` has true
abbrev pub chosen : List Place → List Bool → List Place
chosen [] got = []
chosen (p ∷ ps) [] = []
chosen (p ∷ ps) (b ∷ got) = if b then p ∷ chosen ps got else chosen ps got

-- the next call of the gate may report the given count: it is 0, or one more than a count that was reported before
abbrev pub IsNext : (ℕ → Type 0) → ℕ → Type 0
IsNext Reported zero = Unit {0}
IsNext Reported (suc n) = Reported n
