-- These definitions say that members of a hash table with equal keys are side by side.
use Rattle.std.specs.Prelude.{◌≡◌, ℕ, Bool, true, Option, IfSome, List, [], ◌∷◌, ⊤}
use Rattle.ic_link_ops.specs.Prelude.{Place, Objects, IsMember, first, Table, Successor}
use Rattle.ic_hash_table.specs.declared.table.HashTable.{HashTable}
use Rattle.ic_hash_table.specs.HashTable.{Holds}
use Rattle.ic_hash_table.specs.Searches.{matches, has_key}

-- whether the objects at two places have equal keys
abbrev pub same_key : {V K : Type 0} → (K → K → Bool) → (V → K) → Objects V → Place → Place → Bool
same_key eq key_of objects x y = matches (λ value. has_key eq key_of (key_of value) objects y) objects x

module _ (alike : Place → Place → Bool) where
  -- alike members of a sequence are side by side: if a member is alike a later member, it is alike the member directly after it
  abbrev pub AreSideBySide : List Place → Type 0
  AreSideBySide [] = ⊤
  AreSideBySide (x ∷ s) = ((y : Place) → IsMember y s → alike x y ≡ true → IfSome (first s) (λ next. alike x next ≡ true)) × AreSideBySide s

-- the table holds a sequence of members in which members with equal keys are side by side
module _ {E A B V K : Type 0} (successor : E → Successor) (hash : A → V → ℕ) (fronts : B → List (Option Place)) (eq : K → K → Bool) (key_of : A → V → K) where
  abbrev pub HoldsSideBySide : Table E → HashTable A B → Objects V → Type 0
  HoldsSideBySide t table objects = (s : List Place) × Holds successor hash fronts t table objects s × AreSideBySide (same_key eq (key_of table.adapter) objects) s
