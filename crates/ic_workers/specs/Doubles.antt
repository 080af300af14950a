-- Places that are in several lists.
use Rattle.std.specs.Prelude.{ℕ, zero, suc, ◌+◌, nat_lt, if◌then◌else◌, List, [], ◌∷◌}
use Rattle.ic_unsafe_ref.specs.declared.place.Place.{Place}
use Rattle.ic_workers.specs.SharedOut.{has}

-- how many of the lists contain the place with the index n
abbrev pub times : List (List Place) → ℕ → ℕ
times [] n = 0
times (s ∷ lists) n = (if has s n then 1 else 0) + times lists n

-- how many of the first n places are in more than one of the lists
abbrev pub doubles_below : ℕ → List (List Place) → ℕ
doubles_below zero lists = 0
doubles_below (suc n) lists = (if nat_lt 1 (times lists n) then 1 else 0) + doubles_below n lists
