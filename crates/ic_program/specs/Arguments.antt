-- The arguments with which the program starts workers.
use Rattle.std.specs.Prelude.{◌≡◌, ◌≤◌, List, [], ◌∷◌, String, Some, codes}
use Rattle.std.specs.String.{string_bytes}
use Rattle.ic_program.specs.declared.workers.Workers.{Workers}
use Rattle.ic_program.specs.Grammar.{number_in}

-- the program's arguments are `workers W N`. W is the number of workers, from 1 to 64, and N is the number of places, at most 1,000,000
abbrev pub AskFor : {Z : Type 0} → List (String Z) → Workers → Type 0
AskFor (name ∷ workers ∷ places ∷ []) asked =
    (string_bytes name ≡ codes "workers") × (number_in (string_bytes workers) ≡ Some asked.workers)
    × (number_in (string_bytes places) ≡ Some asked.places) × (1 ≤ asked.workers) × (asked.workers ≤ 64) × (asked.places ≤ 1000000)
AskFor _ asked = ⊥
