-- These definitions are about the values of the objects in a list.
use Rattle.std.specs.Prelude.{◌≡◌, Option, None, Some, List, [], ◌∷◌, ◌++◌}

-- ONE VALUE IS REMOVED from a sequence, where it was between the values `front` and the values `back`
pub record Without {T : Type 0} (value : T) (old new : List T) : Type 0 where
  pub front : List T
  pub back : List T
  pub was : old ≡ front ++ value ∷ back
  pub is : new ≡ front ++ back

-- `first_value` is the first value of a sequence, and `last_value` is the last one. Both are none if the sequence is empty
abbrev pub first_value : {T : Type 0} → List T → Option T
first_value [] = None
first_value (x ∷ s) = Some x

abbrev pub last_value : {T : Type 0} → List T → Option T
last_value [] = None
last_value (x ∷ []) = Some x
last_value (x ∷ y ∷ s) = last_value (y ∷ s)
