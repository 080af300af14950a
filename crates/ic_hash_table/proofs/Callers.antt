-- A caller of a hash table needs these lemmas to say which members the table holds after a call.
use Rattle.std.proofs.Common.{◌≡◌, ◌↔◌, ℕ, Bool, true, false, IsTrue, Option, Some, List, [], ◌∷◌, ◌++◌, refl, subst, ◌∙◌}
use Rattle.std.specs.Bool.{OnFalse, ⊤}
use Rattle.ic_link_ops.specs.Prelude.{Place, Objects, IsMember, Table, Successor}
use Rattle.ic_link_ops.proofs.SequenceLemmas.{member_split}
use Rattle.ic_hash_table.specs.declared.table.HashTable.{HashTable}
use Rattle.ic_hash_table.specs.Prelude.{BelongsIn, Holds, HoldsSome, IsNew, IsRepresented, Finds}
use Rattle.ic_hash_table.proofs.Chains.{chains_nothing, chains_one, chains_weakened}

-- with every table of links, a new hash table holds the empty sequence
pub new_held : {E A B V : Type 0} (successor : E → Successor) (hash : A → V → ℕ) (fronts : B → List (Option Place)) (t : Table E) (table : HashTable A B) (objects : Objects V)
    → IsNew fronts table → HoldsSome successor hash fronts t table objects
new_held successor hash fronts t table objects new = (
  [],
  record {
    distinct = tt;
    chained = chains_nothing successor (BelongsIn table.slots (hash table.adapter) objects) t 0 (fronts table.buckets) new.none;
    placed = tt;
    counted = new.counted;
    well_formed = new.well_formed;
    enough = new.enough;
  },
)

-- if a table holds a sequence, its chains represent this sequence, which `clear` requires
pub held_represented : {E A B V : Type 0} {successor : E → Successor} {hash : A → V → ℕ} {fronts : B → List (Option Place)} {t : Table E} {table : HashTable A B} {objects : Objects V} {s : List Place}
    → Holds successor hash fronts t table objects s → IsRepresented successor fronts t table s
held_represented {successor = successor} {hash = hash} {fronts = fronts} {t = t} {table = table} {objects = objects} {s = s} held = record {
  distinct = held.distinct;
  chained = chains_weakened successor (BelongsIn table.slots (hash table.adapter) objects) (λ i p. ⊤) (λ i p b. tt) t 0 (fronts table.buckets) s held.chained;
  well_formed = held.well_formed;
  enough = held.enough;
}

-- if a table holds s, and its chains represent u, then s and u are equal
pub represented_is_held : {E A B V : Type 0} {successor : E → Successor} {hash : A → V → ℕ} {fronts : B → List (Option Place)} {t : Table E} {table : HashTable A B} {objects : Objects V} {s u : List Place}
    → Holds successor hash fronts t table objects s → IsRepresented successor fronts t table u → s ≡ u
represented_is_held {successor = successor} {fronts = fronts} {t = t} {table = table} {s = s} {u = u} held shown =
    chains_one successor (λ i p. ⊤) t 0 (fronts table.buckets) s u (held_represented held).chained shown.chained

-- after `remove`, whether it returned true or false, the property Q holds for some sequence, if P held for the sequence s before the call
pub removed_some : (P Q : List Place → Type 0) {Same : Type 0} (answer : Bool) {p : Place} (s : List Place) → P s → (IsTrue answer ↔ IsMember p s)
    → ((front back : List Place) → P (front ++ p ∷ back) → Q (front ++ back)) → OnFalse answer Same → (Same → Q s) → (u : List Place) × Q u
removed_some P Q true {p} s held iff removed nothing same =
    let m = member_split p s (iff.0 refl) in (m.0 ++ m.1, removed m.0 m.1 (subst P m.2 held))
removed_some P Q false s held iff removed nothing same = (s, same nothing)

-- after `remove_by` has removed a member, the property Q holds for some sequence, if P held for the sequence s before the call
pub taken_some : (P Q : List Place → Type 0) {is : Place → Bool} {p : Place} (s : List Place) → P s → Finds is s (Some p) → ((front back : List Place) → P (front ++ p ∷ back) → Q (front ++ back))
    → (u : List Place) × Q u
taken_some P Q {p = p} s held found removed = (found.0 ++ found.1, removed found.0 found.1 (subst P found.2 held))

-- let the table `new` have the same parts as the table `old`, as a table has that `from_buckets` makes. Then `new` holds a sequence if `old` holds one
pub held_again : {E A B V : Type 0} {successor : E → Successor} {hash : A → V → ℕ} {fronts : B → List (Option Place)} {t : Table E} {old new : HashTable A B} {objects : Objects V}
    → new.adapter ≡ old.adapter → fronts new.buckets ≡ fronts old.buckets → new.slots ≡ old.slots → new.len ≡ old.len
    → HoldsSome successor hash fronts t old objects → HoldsSome successor hash fronts t new objects
held_again {fronts = fronts} {new = new} adapter buckets slots len (s, held) = (
  s,
  record {
    distinct = held.distinct;
    chained = rw (adapter, buckets, slots) held.chained;
    placed = held.placed;
    counted = len ∙ held.counted;
    well_formed = rw slots held.well_formed;
    enough = rw (buckets, slots) held.enough;
  },
)
