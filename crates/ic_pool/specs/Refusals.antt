-- This file describes the error that is returned if a value is not placed.
use Rattle.std.specs.Prelude.{ℕ, List, codes, Bool, true, false}
use Rattle.ic_pool.specs.declared.place_error.PlaceError.{PlaceError}
use Rattle.ic_pool.specs.declared.place_error.PlaceError.TheVariants.{NoPlaceLeft, OutOfMemory}

-- The value that was not placed, which the error returns to the caller.
abbrev pub value_of : {T : Type 0} → PlaceError T → T
value_of (NoPlaceLeft value) = value
value_of (OutOfMemory value) = value

-- `lacks_place` is true if the value was refused because no place was left. `lacks_place` is false if the value was refused
-- because there was no memory.
abbrev pub lacks_place : {T : Type 0} → PlaceError T → Bool
lacks_place (NoPlaceLeft value) = true
lacks_place (OutOfMemory value) = false

-- The text that is printed for the error.
abbrev pub place_text : {T : Type 0} → PlaceError T → List ℕ
place_text (NoPlaceLeft value) = codes "no place is left for another object"
place_text (OutOfMemory value) = codes "out of memory"
