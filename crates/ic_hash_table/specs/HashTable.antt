-- A hash table stores the first member of each chain, and a table of links leads from each member to the next. Together they hold a sequence of members.
use Rattle.std.specs.Prelude.{◌≡◌, ◌≢◌, ℕ, ◌≤◌, Bool, Option, None, Some, IfSome, List, ◌∷◌, ◌++◌, length, slice_index_or, ⊤}
use Rattle.std.specs.List.{AllByRecursion}
use Rattle.ic_link_ops.specs.Prelude.{Place, Objects, object_at, Cut, join, insert, IsBefore, IsDistinct, IsMember, Table, ChangesOnlyIn, ArePlaced, Successor}
use Rattle.ic_hash_table.specs.declared.slots.Slots.{Slots}
use Rattle.ic_hash_table.specs.declared.table.HashTable.{HashTable}
use Rattle.ic_hash_table.specs.Slots.{slot_of, IsWellFormed}
use Rattle.ic_hash_table.specs.Chains.{AreChained}
use Rattle.ic_hash_table.specs.Searches.{Finds}

module _ {A B : Type 0} where
  -- `adapter_of` is the adapter of a hash table, `len_of` is its number of members, and `slots_of` decides in which chain a hash belongs
  abbrev pub adapter_of : HashTable A B → A
  adapter_of table = table.adapter

  abbrev pub len_of : HashTable A B → ℕ
  len_of table = table.len

  abbrev pub slots_of : HashTable A B → Slots
  slots_of table = table.slots

  -- `fronts_of` is the row of the first members of the chains, and `front_at` is the first member of chain i, or none
  abbrev pub fronts_of : (B → List (Option Place)) → HashTable A B → List (Option Place)
  fronts_of fronts table = fronts table.buckets

  abbrev pub front_at : (B → List (Option Place)) → HashTable A B → ℕ → Option Place
  front_at fronts table i = slice_index_or (fronts table.buckets) i None

  -- the row of the buckets of a hash table, which store the first members of the chains
  abbrev pub buckets_of : HashTable A B → B
  buckets_of table = table.buckets

  -- the table `new` has as many buckets as the table `old`, and lent buckets are in the same memory. Each bucket has its old word, or the word that `set_front`
  -- writes for its first member
  pub record KeepsBuckets (fronts : B → List (Option Place)) (Rewrites : B → B → Type 0) (old new : HashTable A B) : Type 0 where
    pub count : length (fronts new.buckets) ≡ length (fronts old.buckets)
    pub rewrites : Rewrites old.buckets new.buckets

  -- the slots of the table are well formed, and the table has a bucket for each chain in use. Each table that a call has made satisfies this definition
  pub record HasChains (fronts : B → List (Option Place)) (table : HashTable A B) : Type 0 where
    pub well_formed : IsWellFormed table.slots
    pub enough : table.slots.used ≤ length (fronts table.buckets)

  -- the table is new: its chains are empty, it counts no member, and it has a bucket for each chain in use
  pub record IsNew (fronts : B → List (Option Place)) (table : HashTable A B) : Type 0 where
    pub none : AllByRecursion (λ front. front ≡ None) (fronts table.buckets)
    pub counted : table.len ≡ 0
    pub well_formed : IsWellFormed table.slots
    pub enough : table.slots.used ≤ length (fronts table.buckets)

-- the chains of `table` have the members s, one chain after another and no place twice. The keys of the members do not matter
pub record IsRepresented {E A B : Type 0} (successor : E → Successor) (fronts : B → List (Option Place)) (t : Table E) (table : HashTable A B) (s : List Place) : Type 0 where
  pub distinct : IsDistinct s
  pub chained : AreChained successor (λ i p. ⊤) t 0 (fronts table.buckets) s
  pub well_formed : IsWellFormed table.slots
  pub enough : table.slots.used ≤ length (fronts table.buckets)

module _ {E A B : Type 0} (successor : E → Successor) (fronts : B → List (Option Place)) (Rewrites : B → B → Type 0) where
  -- an edit changes only chains: it keeps the adapter, the buckets as `KeepsBuckets` says, and the entry of each place that is neither a member nor in `places`
  pub record ChangesOnlyInChains (old new : Table E) (table table' : HashTable A B) (places : List Place) : Type 0 where
    pub adapter : adapter_of table' ≡ adapter_of table
    pub buckets : KeepsBuckets fronts Rewrites table table'
    pub frame : (s : List Place) → IsRepresented successor fronts old table s → ChangesOnlyIn old new (places ++ s)

  -- an edit changes only the members of chains: `ChangesOnlyInChains` holds, and the same chains are in use afterwards
  pub record ChangesOnlyInMembers (old new : Table E) (table table' : HashTable A B) (places : List Place) : Type 0 where
    pub chains : ChangesOnlyInChains old new table table' places
    pub slots : slots_of table' ≡ slots_of table

-- the number of a value is the hash of its key
abbrev pub number : {A V K : Type 0} → (A → V → K) → (A → K → ℕ) → A → V → ℕ
number key_of hash_of adapter value = hash_of adapter (key_of adapter value)

-- if there is an object at the place p, its hash belongs in chain i
abbrev pub BelongsIn : {V : Type 0} → Slots → (V → ℕ) → Objects V → ℕ → Place → Type 0
BelongsIn {V} slots hash objects i p = (value : V) → object_at objects p ≡ Some value → slot_of slots (hash value) ≡ i

-- if there are objects at the places x and y, their hashes differ
abbrev pub DifferInNumber : {V : Type 0} → (V → ℕ) → Objects V → Place → Place → Type 0
DifferInNumber {V} hash objects x y = (v w : V) → object_at objects x ≡ Some v → object_at objects y ≡ Some w → hash v ≢ hash w

-- `hash` gives the number of a value, which is the hash of its key. `fronts` gives the first members of the chains
module _ {E A B V : Type 0} (successor : E → Successor) (hash : A → V → ℕ) (fronts : B → List (Option Place)) where
  -- THE TABLE HOLDS s: its chains have the members s, no place twice. There is an object at each member, and each member is in the chain where its hash
  -- belongs
  pub record Holds (t : Table E) (table : HashTable A B) (objects : Objects V) (s : List Place) : Type 0 where
    pub distinct : IsDistinct s
    pub chained : AreChained successor (BelongsIn table.slots (hash table.adapter) objects) t 0 (fronts table.buckets) s
    pub placed : ArePlaced objects s
    pub counted : table.len ≡ length s
    pub well_formed : IsWellFormed table.slots
    pub enough : table.slots.used ≤ length (fronts table.buckets)

  -- the table holds some sequence of members
  abbrev pub HoldsSome : Table E → HashTable A B → Objects V → Type 0
  HoldsSome t table objects = (s : List Place) × Holds t table objects s

  -- the table holds the sequence s with the place p inserted at some gap of s
  abbrev pub HoldsWith : Table E → HashTable A B → Objects V → List Place → Place → Type 0
  HoldsWith t table objects s p = (gap : Cut) × (join gap ≡ s) × Holds t table objects (insert gap p)

  -- the table holds the sequence s with the place p inserted at `gap`, a gap of one chain. `ahead` has the members of the chains before this chain, and `after`
  -- those of the chains after it
  pub record HoldsAt (t : Table E) (table : HashTable A B) (objects : Objects V) (s : List Place) (gap : Cut) (p : Place) : Type 0 where
    pub ahead : List Place
    pub after : List Place
    pub parts : s ≡ (ahead ++ gap.front) ++ (gap.back ++ after)
    pub holds : Holds t table objects ((ahead ++ gap.front) ++ p ∷ (gap.back ++ after))
    -- no member before the gap has an object with the same hash as a member after the gap's chain
    pub apart : (x y : Place) → IsMember x (ahead ++ gap.front) → IsMember y after → DifferInNumber (hash table.adapter) objects x y

  -- the table holds the sequence s with the place p inserted. If a member of s passes the test `is`, the place p is directly before the first such member
  pub record HoldsBefore (t : Table E) (table : HashTable A B) (objects : Objects V) (is : Place → Bool) (s : List Place) (p : Place) : Type 0 where
    pub gap : Cut
    pub whole : join gap ≡ s
    pub holds : Holds t table objects (insert gap p)
    pub found : Option Place
    pub finds : Finds is s found
    pub in_front : IfSome found (λ q. IsBefore gap (Some q))
