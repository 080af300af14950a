-- An entry is the result of a search for a key: the first member with the key, or the chain where an object with the key belongs.
use Rattle.std.specs.Prelude.{◌≡◌, ℕ, ◌<◌, ⊤, Option, Result, IfOk, IfErr, List, [], ◌∷◌, ◌++◌}
use Rattle.std.specs.Borrow.{MutBor}
use Rattle.ic_link_ops.specs.Prelude.{Place, Objects, last, Table, LinkStep, acquires, Successor}
use Rattle.ic_hash_table.specs.declared.entry.Entry.{Entry}
use Rattle.ic_hash_table.specs.declared.entry.Entry.TheVariants.{Occupied, Vacant}
use Rattle.ic_hash_table.specs.declared.entry.OccupiedEntry.{OccupiedEntry}
use Rattle.ic_hash_table.specs.declared.entry.RefusedInsert.{RefusedInsert}
use Rattle.ic_hash_table.specs.declared.entry.VacantEntry.{VacantEntry}
use Rattle.ic_hash_table.specs.declared.table.HashTable.{HashTable}
use Rattle.ic_hash_table.specs.Chains.{RepresentsFrom}
use Rattle.ic_hash_table.specs.HashTable.{adapter_of, slots_of, front_at, BelongsIn, Holds, HoldsWith, ChangesOnlyInMembers}
use Rattle.ic_hash_table.specs.Slots.{slot_of}

module _ {A B L : Type 0} where
  -- `IfOccupied e P`: if e is an occupied entry, P holds for it. `IfVacant e P`: if e is a vacant entry, P holds for it
  abbrev pub IfOccupied : Entry A B L → (OccupiedEntry A B L → Type 0) → Type 0
  IfOccupied (Occupied e) P = P e
  IfOccupied (Vacant e) P = ⊤

  abbrev pub IfVacant : Entry A B L → (VacantEntry A B L → Type 0) → Type 0
  IfVacant (Occupied e) P = ⊤
  IfVacant (Vacant e) P = P e

  -- the member that the search for a key has found
  abbrev pub member_of : OccupiedEntry A B L → Place
  member_of e = e.member

  -- the entry e borrows the hash table `hash` and the table of links `links`, and both are as they were before the search
  abbrev pub IsFoundIn : MutBor (HashTable A B) → MutBor L → OccupiedEntry A B L → Type 0
  IsFoundIn hash links e =
      (e.table.ghost_name ≡ hash.ghost_name) × (e.links.ghost_name ≡ links.ghost_name) × (e.table.now ≡ hash.now) × (e.links.now ≡ links.now)

  abbrev pub IsVacantIn : MutBor (HashTable A B) → MutBor L → VacantEntry A B L → Type 0
  IsVacantIn hash links e =
      (e.table.ghost_name ≡ hash.ghost_name) × (e.links.ghost_name ≡ links.ghost_name) × (e.table.now ≡ hash.now) × (e.links.now ≡ links.now)

  -- THE MEMBER CAN BE REMOVED: it is in the chain that the entry stores, directly after the member that the entry stores as `before`
  abbrev pub CanRemove : {E : Type 0} → (E → Successor) → (L → Table E) → (B → List (Option Place)) → OccupiedEntry A B L → Type 0
  CanRemove successor table fronts e =
      (e.at < (slots_of e.table.now).used)
      × ((ahead back : List Place) × RepresentsFrom successor (table e.links.now) (front_at fronts e.table.now e.at) (ahead ++ e.member ∷ back) × (e.before ≡ last ahead))

  -- the vacant entries `old` and e borrow the same table of links and the same hash table, which is unchanged. Both entries store the same chain
  abbrev pub IsVacantAgain : VacantEntry A B L → VacantEntry A B L → Type 0
  IsVacantAgain old e =
      (e.table.ghost_name ≡ old.table.ghost_name) × (e.links.ghost_name ≡ old.links.ghost_name) × (e.table.now ≡ old.table.now) × (e.at ≡ old.at)

  -- the chain of the vacant entry is in use, and it is the chain where objects with the hash `hash` belong
  abbrev pub IsChainFor : ℕ → VacantEntry A B L → Type 0
  IsChainFor hash e = (e.at < (slots_of e.table.now).used) × (e.at ≡ slot_of (slots_of e.table.now) hash)

  -- THE OBJECT CAN BE INSERTED: the chain of the vacant entry is in use, and the object at the place p belongs in it
  abbrev pub CanInsert : {V : Type 0} → (A → V → ℕ) → Objects V → VacantEntry A B L → Place → Type 0
  CanInsert hash objects e p =
      (e.at < (slots_of e.table.now).used) × BelongsIn (slots_of e.table.now) (hash (adapter_of e.table.now)) objects e.at p

-- the call has inserted `object` and returned the entry of the new member. If the link of `object` is refused, the call returns the object and the vacant
-- entry, and the table is unchanged
module _ {E A B L V K : Type 0} (successor : E → Successor) (table : L → Table E) (fronts : B → List (Option Place)) (Rewrites : B → B → Type 0) (hash : A → V → ℕ) (Trace : L → L → List LinkStep → Type 0) (Refused : L → L → Place → Type 0) where
  pub record EntersAt (objects : Objects V) (old : VacantEntry A B L) (object : Place) (result : Result (OccupiedEntry A B L) (RefusedInsert A B L V K)) : Type 0 where
    pub member : IfOk result (λ e. member_of e ≡ object)
    pub inserted : (s : List Place) → Holds successor hash fronts (table old.links.now) old.table.now objects s
        → IfOk result (λ e. HoldsWith successor hash fronts (table e.links.now) e.table.now objects s object)
    pub can_remove : IfOk result (CanRemove successor table fronts)
    pub acquired : IfOk result (λ e. Trace old.links.now e.links.now (acquires object ∷ []))
    pub borrows : IfOk result (λ e. (e.table.ghost_name ≡ old.table.ghost_name) × (e.links.ghost_name ≡ old.links.ghost_name))
    pub kept : IfOk result (λ e. ChangesOnlyInMembers successor fronts Rewrites (table old.links.now) (table e.links.now) old.table.now e.table.now (object ∷ []))
    pub refused : IfErr result (λ r. Refused old.links.now r.entry.links.now object)
    pub unchanged : IfErr result (λ r. (r.object ≡ object) × IsVacantAgain old r.entry)
