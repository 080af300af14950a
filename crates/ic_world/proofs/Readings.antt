-- What the family has at a place, in a field and under a number, in terms of the objects, tables and collections that represent it.
use Rattle.std.proofs.Common.{◌≡◌, ℕ, Bool, ◌<◌, List, length, map, set, get_or, Option, Some, None, refl, sym, ap, subst, ◌∙◌, arith, IsSome}
use Rattle.std.proofs.lemmas.Option.{same_Some}
use Rattle.std.proofs.lemmas.List.{length-map, get_or_past, get_or-map, map-set, set-get_or}
use Rattle.std.proofs.Math.ListN.{get_or-map as map_at}
use Rattle.ic_link_ops.specs.Prelude.{Objects, Table}
use Rattle.ic_any_collection.specs.declared.entry.Entry.{Entry}
use Rattle.ic_any_collection.specs.declared.any_table.AnyTable.{AnyTable}
use Rattle.ic_world.specs.declared.field.WorldField.{WorldField}
use Rattle.ic_world.specs.declared.collection.Collection.{Collection}
use Rattle.ic_any_collection.specs.declared.any_collection.AnyCollection.{AnyCollection}
use Rattle.ic_any_collection.specs.AnyCollection.{Held}
use Rattle.ic_world.specs.Collections.{its_field, its_members, having, with_members}
use Rattle.ic_world.specs.Prelude.{table, table_of, left_in, no_table, field_in, sequence, seen_as, represented_as, at, family_of, IsKept, Family, collection, field_of, linked_of}
use Rattle.ic_world.specs.LinkedSets.{linked_in}

-- the table t that a call has read for the field f is the table of that field
pub table_read : {M : Type 0} (tables : List (WorldField M)) (f : ℕ) (t : WorldField M) → f < length tables → t ≡ get_or tables f t → table (map table_of tables) f ≡ table_of t
table_read tables f t h e = get_or-map table_of tables f t no_table h ∙ ap table_of (sym e)

-- an index below the length that a call has read is an index of the list
pub in_list : {X : Type 0} (xs : List X) {i n len : ℕ} → i < n → n ≡ len → len ≡ length xs → i < length xs
in_list xs {i} {n} {len} h e l = omega (arith, h, e, l)

-- an item that was read at an index and is written back there changes nothing
pub set_back : {X : Type 0} (xs : List X) (i : ℕ) (x : X) → x ≡ get_or xs i x → set xs i x ≡ xs
set_back xs i x e = ap (set xs i) e ∙ set-get_or xs i x

-- if a field gets another table, its mark for members that are left linked stays as it was
pub left_back : {M : Type 0} (tables : List (WorldField M)) (f : ℕ) (now : WorldField M) (links : AnyTable M) → set tables f now ≡ tables → left_in (set tables f (record now { links = links })) ≡ left_in tables
left_back {M} tables f now links back =
    let says : WorldField M → Bool = λ x. x.left_linked in
    map-set says tables f (record now { links = links }) ∙ sym (map-set says tables f now) ∙ ap left_in back

-- an index at which the list has an item is below the length of the list
pub some_within : {X : Type 0} (xs : List (Option X)) (c : ℕ) {x : X} → get_or xs c None ≡ Some x → c < length xs
some_within xs c is = grind (arith, get_or_past)

module _ {V : Type 0} where
  -- what holds if a call has found the collection k under the number c, and has read the field of k as `now`
  pub record Found {M : Type 0} (tables : List (WorldField M)) (cs : List (Option (Collection V))) (c : ℕ) (k : Collection V) (now : WorldField M) : Type 0 where
    pub is : at cs c ≡ Some k
    pub field : k.field < length (map table_of tables)
    pub read : table (map table_of tables) k.field ≡ table_of now
    pub held : Held (table_of now) k.members
    pub table_back : set tables k.field now ≡ tables

  pub found : {A M : Type 0} {adapter : A} {objects : Objects V} {room : ℕ} (tables : List (WorldField M)) {cs : List (Option (Collection V))} {c : ℕ} {k : Collection V} {now : WorldField M}
      → IsKept adapter objects room tables cs → at cs c ≡ Some k → now ≡ get_or tables k.field now → Found tables cs c k now
  found tables {c = c} {k = k} {now = now} kept is links =
      let field = kept.0.in_field c k is in
      let read = table_read tables k.field now (rw length-map at field) links in
      let P : Table Entry → Type 0 = λ t. Held t k.members in
      record {
        is = is;
        field = field;
        read = read;
        held = subst P read (kept.0.held c k is);
        table_back = set_back tables k.field now links;
      }

  -- o is what the world has under a number. If a call has read the field of o, o is a collection (`is_there`). If it has read none, o is none
  -- (`none_there`)
  pub is_there : (o : Option (Collection V)) {f : ℕ} → Some f ≡ its_field o → IsSome o
  is_there None h = absurd cc
  is_there (Some k) h = refl

  pub some_read : (o : Option (Collection V)) {f : ℕ} → Some f ≡ its_field o → (k : Collection V) × (o ≡ Some k)
  some_read None h = absurd cc
  some_read (Some k) h = (k, refl)

  pub none_there : (o : Option (Collection V)) → None ≡ its_field o → o ≡ None
  none_there None h = refl
  none_there (Some k) h = absurd cc

  pub one_read : (o : Option (Collection V)) (f : ℕ) (m : AnyCollection V) → Some f ≡ its_field o → Some m ≡ its_members o → o ≡ Some (record { field = f; members = m })
  one_read None f m h e = absurd cc
  one_read (Some k) f m h e = λ i. Some (record { field = same_Some _ _ (sym h) i; members = same_Some _ _ (sym e) i })

  -- if the collection c gets the members m, the list of collections has k with these members at the index c
  pub with_is : (cs : List (Option (Collection V))) (c : ℕ) (k : Collection V) → at cs c ≡ Some k → (m : AnyCollection V) → with_members cs c m ≡ set cs c (Some (record { field = k.field; members = m }))
  with_is cs c k is m = ap (λ o. set cs c (having m o)) is

  module _ {A : Type 0} (adapter : A) (objects : Objects V) (ts : List (Table Entry)) (cs : List (Option (Collection V))) where
    pub collection_at : (c : ℕ) → collection (family_of adapter objects ts cs) c ≡ represented_as ts (at cs c)
    collection_at c = map_at (represented_as ts) cs c None

    pub collection_is : (c : ℕ) (k : Collection V) → at cs c ≡ Some k → collection (family_of adapter objects ts cs) c ≡ Some (seen_as k (sequence ts k))
    collection_is c k e = collection_at c ∙ ap (represented_as ts) e

    pub collection_not : (c : ℕ) → at cs c ≡ None → collection (family_of adapter objects ts cs) c ≡ None
    collection_not c e = collection_at c ∙ ap (represented_as ts) e

    pub field_at : (f : ℕ) → f < length ts → field_of (family_of adapter objects ts cs) f ≡ field_in (table ts f)
    field_at f h = get_or-map field_in ts f no_table _ h

    pub linked_at : (f : ℕ) → f < length ts → linked_of (family_of adapter objects ts cs) f ≡ linked_in (table ts f)
    linked_at f h = ap (λ x. x.linked) (field_at f h)

    -- if no collection is stored under the number c, the family has no collection with this number
    pub missing : (c : ℕ) → at cs c ≡ None → {old : Family A V} → family_of adapter objects ts cs ≡ old → collection old c ≡ None
    missing c is view = rw (← view) (collection_not c is)
