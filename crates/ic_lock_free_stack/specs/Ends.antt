-- The ends of a list of places.
use Rattle.std.specs.Prelude.{Option, Some, None, List, [], ◌∷◌}
use Rattle.ic_unsafe_ref.specs.declared.place.Place.{Place}

-- the first place and the last place of a list, or none if the list is empty
abbrev pub first : List Place → Option Place
first [] = None
first (p ∷ s) = Some p

abbrev pub last : List Place → Option Place
last [] = None
last (p ∷ []) = Some p
last (p ∷ q ∷ s) = last (q ∷ s)
