-- This file says which places an edit changes, whatever the words of a table contain. The words need not represent a sequence.
use Rattle.std.specs.Prelude.{◌≡◌, ◌≢◌, ◌∷◌, List, [], Bool, Option, Some}
use Rattle.ic_link_ops.specs.Prelude.{Place, Table, LinkStep, TraceIs}
use Rattle.ic_raw.specs.declared.gap.Gap.{Gap}

-- the place q is different from each place in the list
abbrev pub IsNoneOf : List (Option Place) → Place → Type 0
IsNoneOf [] q = Unit {0}
IsNoneOf (end ∷ ends) q = (end ≢ Some q) × IsNoneOf ends q

-- `sides` is the list of the place before the gap and the place after the gap
abbrev pub sides : Gap → List (Option Place)
sides gap = gap.before ∷ gap.after ∷ []

-- WHAT AN EDIT TOUCHES: the edit makes exactly the link steps `steps`, and changes no entry outside the list `places`
pub record Touches {E : Type 0} (linked : E → Bool) (old new : Table E) (steps : List LinkStep) (places : List (Option Place)) : Type 0 where
  pub steps_are : TraceIs linked old new steps
  pub others : (q : Place) → IsNoneOf places q → new.entry q ≡ old.entry q
