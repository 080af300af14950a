-- Laws of a hash table whose members are all objects of a container.
use Rattle.std.proofs.Common.{◌≡◌, ℕ, Bool, true, None, Some, Option, IsSome, is_some, List, [], ◌∷◌, sym, ap, ◌∙◌}
use Rattle.std.specs.List.{AllByRecursion}
use Rattle.ic_link_ops.specs.Prelude.{Place, Objects, object_at, is_placed, IsDisjoint, IsMember, Table, IsUnlinked, Successor}
use Rattle.ic_link_ops.proofs.Prelude.{Puts, put_others, put_there, none_not, some_same}
use Rattle.ic_link_ops.proofs.LinkedSets.{everywhere}
use Rattle.ic_hash_table.specs.declared.table.HashTable.{HashTable}
use Rattle.ic_hash_table.specs.Prelude.{BelongsIn, slot_of}
use Rattle.ic_hash_table.proofs.Chains.{chains_frame, chains_weakened}
use Rattle.ic_hash_index.specs.HashIndex.{HoldsAll}

-- every sequence s shares no member with the empty sequence
apart_from_none : (s : List Place) → IsDisjoint s []
apart_from_none [] = tt
apart_from_none (x ∷ s) = (tt, apart_from_none s)

-- THE TABLE OF LINKS HAS GROWN: if each entry of the grown table is as in the old table, the hash table still has every object. A call of `place`
-- grows the table like this, whatever it returns
pub hash_grown : {E A B T : Type 0} {succ : E → Successor} {linked : E → Bool} {hash : A → T → ℕ} {fronts : B → List (Option Place)} {t grown : Table E} {table : HashTable A B} {objects : Objects T} → ((q : Place) → grown.entry q ≡ t.entry q) → HoldsAll succ linked hash fronts t table objects
    → HoldsAll succ linked hash fronts grown table objects
hash_grown {succ = succ} {linked} {hash} {fronts} {t} {grown} {table} {objects} stays a = record {
  members = a.members;
  held = record {
    distinct = a.held.distinct;
    chained = chains_frame succ (BelongsIn table.slots (hash table.adapter) objects) t grown [] 0 (fronts table.buckets) a.members a.held.chained (apart_from_none a.members) (λ q out. stays q);
    placed = a.held.placed;
    counted = a.held.counted;
    well_formed = a.held.well_formed;
    enough = a.held.enough;
  };
  all = a.all;
  only = λ q none. ap linked (stays q) ∙ a.only q none;
}

-- A VALUE IS REPLACED: the hash table still has every object after a value with the same hash has been stored at the place of the value `out`
pub hash_alike : {E A B T : Type 0} {succ : E → Successor} {linked : E → Bool} {hash : A → T → ℕ} {fronts : B → List (Option Place)} {t : Table E} {table : HashTable A B} {objects new : Objects T} → HoldsAll succ linked hash fronts t table objects → {p : Place} {out value : T} → object_at objects p ≡ Some out → Puts objects new p value
    → hash table.adapter value ≡ hash table.adapter out → HoldsAll succ linked hash fronts t table new
hash_alike {succ = succ} {linked} {hash} {fronts} {t} {table} {objects} {new} a {p} {out} {value} there puts same = record {
  members = a.members;
  held = record {
    distinct = a.held.distinct;
    chained = chains_weakened succ (BelongsIn table.slots (hash table.adapter) objects) (BelongsIn table.slots (hash table.adapter) new) belongs t 0 (fronts table.buckets) a.members a.held.chained;
    placed = still a.members a.held.placed;
    counted = a.held.counted;
    well_formed = a.held.well_formed;
    enough = a.held.enough;
  };
  all = λ q. everywhere (λ q. is_placed new q ≡ true → IsMember q a.members) p q (λ is. a.all p (ap is_some there)) (λ n is. a.all q (sym (ap is_some (put_others puts q n)) ∙ is));
  only = λ q. everywhere (λ q. object_at new q ≡ None → IsUnlinked linked t q) p q (λ none. absurd (none_not value (sym none ∙ put_there puts))) (λ n none. a.only q (sym (put_others puts q n) ∙ none));
} where
  belongs : (i : ℕ) (q : Place) → BelongsIn table.slots (hash table.adapter) objects i q → BelongsIn table.slots (hash table.adapter) new i q
  belongs i q = everywhere (λ q. BelongsIn table.slots (hash table.adapter) objects i q → BelongsIn table.slots (hash table.adapter) new i q) p q
      (λ b v now. ap (slot_of table.slots) (ap (hash table.adapter) (some_same (sym now ∙ put_there puts)) ∙ same) ∙ b out there)
      (λ n b v now. b v (sym (put_others puts q n) ∙ now))

  still : (s : List Place) → AllByRecursion (λ q. IsSome (object_at objects q)) s → AllByRecursion (λ q. IsSome (object_at new q)) s
  still [] all = tt
  still (x ∷ s) all = (everywhere (λ q. IsSome (object_at objects q) → IsSome (object_at new q)) p x (λ h. ap is_some (put_there puts)) (λ n h. ap is_some (put_others puts x n) ∙ h) all.0, still s all.1)
