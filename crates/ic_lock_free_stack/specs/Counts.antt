-- How often places are pushed and taken.
use Rattle.std.specs.Prelude.{ℕ, ◌+◌, ◌==◌, if◌then◌else◌, List, [], ◌∷◌, ◌++◌, map, sum_by, Contains, ◌≡◌}
use mathlib.Core.Option.{some}
use lib.ListN.{get_elem?}
use Rattle.ic_unsafe_ref.specs.declared.place.Place.{Place}
use Rattle.ic_lock_free_stack.specs.declared.step.Step.{Step}
use Rattle.ic_lock_free_stack.specs.declared.step.Step.TheVariants.{Claim, Release, Push, TakeAll}
use Rattle.ic_lock_free_stack.specs.Moments.{same}
use Rattle.ic_lock_free_stack.specs.OneHistory.{Party}

-- how often the place occurs in the list
abbrev pub times : Place → List Place → ℕ
times p [] = 0
times p (q ∷ qs) = (if same p q then 1 else 0) + times p qs

-- how often a step pushes the place to the stack k, and how often a step takes the place from the stack k
abbrev pub puts : ℕ → Place → Step → ℕ
puts k p (Claim q got) = 0
puts k p (Release q) = 0
puts k p (Push j s) = if j == k then times p s else 0
puts k p (TakeAll j s) = 0

abbrev pub takes_out : ℕ → Place → Step → ℕ
takes_out k p (Claim q got) = 0
takes_out k p (Release q) = 0
takes_out k p (Push j s) = 0
takes_out k p (TakeAll j s) = if j == k then times p s else 0

-- the sum of a count f over all steps of all records
abbrev pub in_all : (Step → ℕ) → List Party → ℕ
in_all f parties = sum_by (λ (x : Party). sum_by f x.steps) parties

-- the holder with the name h has made one more step, which is e, and the other holders have made no step
pub record OneStepOn (parties later : List Party) (h : ℕ) (e : Step) : Type 0 where
  pub names : map (λ (x : Party). x.name) later ≡ map (λ (x : Party). x.name) parties
  pub there : Contains (map (λ (x : Party). x.name) parties) h
  pub steps : (i : ℕ) (x y : Party) → get_elem? parties i ≡ some x → get_elem? later i ≡ some y
      → y.steps ≡ (if h == x.name then x.steps ++ e ∷ [] else x.steps)
