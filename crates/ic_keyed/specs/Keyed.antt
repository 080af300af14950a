-- A container has values in an order, and each value has a key.
use Rattle.std.specs.Prelude.{◌≡◌, ℕ, Bool, false, not, eqb, Option, List, [], ◌∷◌, ◌++◌, filter, find}
use Rattle.std.specs.List.{AllByRecursion}

-- `values` has the values, from the one that was used last to the oldest. `parts` is the number of parts into which the index divides the values, and a
-- search compares only values of one part
pub record KeyedValues (T : Type 0) : Type 0 where
  pub values : List T
  pub parts : ℕ

-- the container `old` with other values, and with as many parts of its index
abbrev pub with_values : {T : Type 0} → KeyedValues T → List T → KeyedValues T
with_values old values = record { values = values; parts = old.parts }

module _ {T : Type 0} (key_of : T → ℕ) where
  -- whether a value has the key
  abbrev pub has_key : ℕ → T → Bool
  has_key key value = eqb (key_of value) key

  -- the value with the key, if there is one
  abbrev pub value_with : ℕ → List T → Option T
  value_with key values = find (has_key key) values

  -- the values without the one that has the key
  abbrev pub without : ℕ → List T → List T
  without key values = filter (λ value. not (has_key key value)) values

  -- the values after a use of the key: the value with the key, if there is one, is first, and the other values keep their order
  abbrev pub touched : ℕ → List T → List T
  touched key values = filter (has_key key) values ++ without key values

  -- none of the values has the key
  abbrev pub Lack : ℕ → List T → Type 0
  Lack key values = AllByRecursion (λ value. has_key key value ≡ false) values

  -- no two values have equal keys
  abbrev pub HaveOwnKeys : List T → Type 0
  HaveOwnKeys [] = Unit {0}
  HaveOwnKeys (value ∷ values) = Lack (key_of value) values × HaveOwnKeys values

-- `BeginsWith` says that `first` is the first of the values, and `EndsWith` says that `last` is the last of the values
abbrev pub BeginsWith : {T : Type 0} → T → List T → Type 0
BeginsWith {T} first values = (rest : List T) × (values ≡ first ∷ rest)

abbrev pub EndsWith : {T : Type 0} → T → List T → Type 0
EndsWith {T} last values = (front : List T) × (values ≡ front ++ last ∷ [])

-- the last value, `last`, is removed, and the value `value` is inserted at the front
abbrev pub ReplacesLast : {T : Type 0} → T → T → KeyedValues T → KeyedValues T → Type 0
ReplacesLast {T} last value old new = (front : List T) × (old.values ≡ front ++ last ∷ []) × (new ≡ with_values old (value ∷ front))
