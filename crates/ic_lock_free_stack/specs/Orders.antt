-- The order in which places are pushed to a stack, and the order in which they are taken from it.
use Rattle.std.specs.Prelude.{ℕ, ◌==◌, if◌then◌else◌, List, [], flat_map, reverse}
use Rattle.ic_unsafe_ref.specs.declared.place.Place.{Place}
use Rattle.ic_lock_free_stack.specs.declared.step.Step.{Step}
use Rattle.ic_lock_free_stack.specs.declared.step.Entry.{Entry}
use Rattle.ic_lock_free_stack.specs.declared.step.Step.TheVariants.{Claim, Release, Push, TakeAll}

-- the places that a step pushes to the stack k, and the places that a step takes from the stack k, each in the order in which they were pushed
abbrev pub sent : ℕ → Step → List Place
sent k (Claim q got) = []
sent k (Release q) = []
sent k (Push j s) = if j == k then reverse s else []
sent k (TakeAll j s) = []

abbrev pub got : ℕ → Step → List Place
got k (Claim q was) = []
got k (Release q) = []
got k (Push j s) = []
got k (TakeAll j s) = if j == k then reverse s else []

-- the lists `f e` for all steps e of a record, or of a history, joined in the order of the steps
abbrev pub of_record : (Step → List Place) → List Step → List Place
of_record f es = flat_map f es

abbrev pub of_history : (Step → List Place) → List Entry → List Place
of_history f order = flat_map (λ (x : Entry). f x.step) order
