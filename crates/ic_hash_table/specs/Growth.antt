-- A hash table grows by one chain, and the members of one old chain are split between the old chain and the new one.
use Rattle.std.specs.Prelude.{◌≡◌, ◌+◌, ℕ, Bool, true, false, nat_eq, Option, IfSome, List, ◌++◌, length}
use Rattle.std.specs.Cmp.{IsPartialEquivalence}
use Rattle.std.specs.List.{AllByRecursion}
use Rattle.ic_link_ops.specs.Prelude.{Place, Objects, IsAbsent, IsMember, IsDistinct, first, Table, Successor}
use Rattle.ic_hash_table.specs.declared.slots.Slots.{Slots}
use Rattle.ic_hash_table.specs.declared.table.HashTable.{HashTable}
use Rattle.ic_hash_table.specs.HashTable.{Holds}
use Rattle.ic_hash_table.specs.Slots.{slot_of}
use Rattle.ic_hash_table.specs.Chains.{RepresentsFrom}
use Rattle.ic_hash_table.specs.SideBySide.{AreSideBySide}

-- whether an object with the value `value` belongs in chain i, by the hash of the value
abbrev pub belongs_at : {V : Type 0} → Slots → (V → ℕ) → ℕ → V → Bool
belongs_at slots hash i value = nat_eq (slot_of slots (hash value)) i

-- alike members of `out` are side by side. If a member of `left` is alike some member of `out`, it is alike the first member of `out`
pub record AreTurned (alike : Place → Place → Bool) (left out : List Place) : Type 0 where
  pub side : AreSideBySide alike out
  pub next : (x y : Place) → IsMember x left → IsMember y out → alike x y ≡ true → IfSome (first out) (λ f. alike x f ≡ true)

-- `is p` says whether the member p moves to the new chain
module _ {E : Type 0} (successor : E → Successor) (is : Place → Bool) where
  -- THE CHAIN IS SPLIT up to the member `rest`, where the unsplit part begins. The chain from `stays` has the members that stay, and the chain from
  -- `moves` has the members that move
  pub record IsParted (t : Table E) (chain : List Place) (rest stays moves : Option Place) : Type 0 where
    pub left : List Place
    pub staying : List Place
    pub moving : List Place
    pub represents_left : RepresentsFrom successor t rest left
    pub represents_staying : RepresentsFrom successor t stays staying
    pub represents_moving : RepresentsFrom successor t moves moving
    pub distinct : IsDistinct (left ++ (staying ++ moving))
    pub stay : AllByRecursion (λ p. is p ≡ false) staying
    pub move : AllByRecursion (λ p. is p ≡ true) moving
    pub adds_none : (q : Place) → IsAbsent q chain → IsAbsent q (left ++ (staying ++ moving))
    pub all : (q : Place) → IsAbsent q (left ++ (staying ++ moving)) → IsAbsent q chain
    pub count : length left + length staying + length moving ≡ length chain
    -- `passed` has the members before `rest` in the old chain. If alike members were side by side in the old chain, they are side by side after the split
    pub passed : List Place
    pub cut : chain ≡ passed ++ left
    pub among : (q : Place) → IsAbsent q passed → IsAbsent q (staying ++ moving)
    pub beside : (alike : Place → Place → Bool) → IsPartialEquivalence alike → AreSideBySide alike chain → AreTurned alike left staying × AreTurned alike left moving

-- THE TABLE HOLDS THE MEMBERS of s, maybe in another order: each member of s is in a chain, and each member of a chain is in s
module _ {E A B V : Type 0} (successor : E → Successor) (hash : A → V → ℕ) (fronts : B → List (Option Place)) where
  pub record HoldsSameMembers (t : Table E) (table : HashTable A B) (objects : Objects V) (s : List Place) : Type 0 where
    pub members : List Place
    pub holds : Holds successor hash fronts t table objects members
    pub adds_none : (q : Place) → IsAbsent q s → IsAbsent q members
    pub all : (q : Place) → IsAbsent q members → IsAbsent q s
