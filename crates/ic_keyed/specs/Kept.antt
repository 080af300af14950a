-- A container with unique keys has values in a list, and an index with some number of parts.
use Rattle.std.specs.Prelude.{ℕ, List, refl}
use Rattle.std.specs.Coded.{Coded, code_by, coded×, coded_list, coded_ℕ}
use Rattle.ic_indexed.specs.Indexed.{IndexedOrder, values_of}
use Rattle.ic_keyed.specs.Keyed.{KeyedValues}

-- the values of the list in their order, and the number of parts of the index
abbrev pub keyed_of : {T : Type 0} → IndexedOrder T → KeyedValues T
keyed_of store = record { values = values_of store; parts = store.parts }

-- a value of the type `KeyedValues` is stored as the pair of its fields
abbrev pub keyed_code : {T : Type 0} → Coded T → Coded (KeyedValues T)
keyed_code {T} code = code_by (List T × ℕ) (coded× (coded_list code) coded_ℕ) (λ k. (k.values, k.parts)) (λ p. record { values = p.0; parts = p.1 }) (λ _. refl)
