-- What a check of a hash table finds out about one chain.
use Rattle.std.specs.Prelude.{◌≡◌, ℕ, Option, Some, List}
use Rattle.std.specs.List.{AllByRecursion}
use Rattle.ic_link_ops.specs.Prelude.{Place, Objects, object_at, Table, Successor}
use Rattle.ic_hash_table.specs.declared.slots.Slots.{Slots}
use Rattle.ic_hash_table.specs.declared.table.HashTable.{HashTable}
use Rattle.ic_hash_table.specs.Prelude.{slot_of, RepresentsFrom, front_at}

-- the place p has an object, and the object's hash leads to chain i
abbrev pub IsPlacedIn : {V : Type 0} → Slots → (V → ℕ) → Objects V → ℕ → Place → Type 0
IsPlacedIn {V} slots hash objects i p = (value : V) × (object_at objects p ≡ Some value) × (slot_of slots (hash value) ≡ i)

-- the table represents the sequence `chain` for chain i, and each member of `chain` has an object whose hash leads to chain i
module _ {E A B V : Type 0} (successor : E → Successor) (hash : A → V → ℕ) (fronts : B → List (Option Place)) (t : Table E) (table : HashTable A B) (objects : Objects V) where
  pub record RepresentsOwn (i : ℕ) (chain : List Place) : Type 0 where
    pub shown : RepresentsFrom successor t (front_at fronts table i) chain
    pub own : AllByRecursion (IsPlacedIn table.slots (hash table.adapter) objects i) chain
