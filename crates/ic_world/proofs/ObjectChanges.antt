-- What a world guarantees if an object is placed, if the value of an object is replaced, and if an object is removed.
use Rattle.std.proofs.Common.{◌≡◌, ◌≢◌, ℕ, ◌<◌, ◌^◌, ◌⊎◌, inl, inr, Bool, true, false, cond, List, length, map, get_or, Option, Some, None, is_some, refl, sym, ap, subst, ◌∙◌, eq-eqb, ne_eqb, arith, Result, Ok, Err, IfOk, Ordering}
use Rattle.std.proofs.lemmas.Bool.{cases_eq}
use Rattle.std.proofs.lemmas.List.{get_or_past, get_or-map, length-map}
use Rattle.std.proofs.lemmas.List.Folds.{list_any_at}
use Rattle.std.proofs.Math.ListN.{get_or-map as map_at}
use Rattle.std.specs.List.{list_any}
use Rattle.std.specs.Ordering.{nat_cmp, eq_by_cmp}
use Rattle.std.specs.Cmp.{nat_cmp_total, unsigned_tied}
use Rattle.std.specs.FinMap as map_of
use Rattle.std.specs.FinSet as set_of
use Rattle.std.specs.FinMap.{get-insert, get-remove}
use Rattle.ic_link_ops.specs.Prelude.{Place, index_of, Objects, is_placed as place_is_placed, Table}
use Rattle.ic_unsafe_ref.proofs.PlaceLemmas.{same_index}
use Rattle.ic_any_collection.specs.declared.entry.Entry.{Entry}
use Rattle.ic_any_collection.specs.Entries.{is_linked}
use Rattle.ic_world.specs.declared.field.WorldField.{WorldField}
use Rattle.ic_any_collection.proofs.AllKinds.{lawful as lawful_field}
use Rattle.ic_world.specs.declared.collection.Collection.{Collection}
use Rattle.ic_world.specs.declared.call.Refusal.{Refusal}
use Rattle.ic_world.specs.declared.call.Refusal.TheVariants.{NoSuchObject}
use Rattle.ic_world.specs.declared.call.Command.TheVariants.{SetValue}
use Rattle.ic_world.specs.declared.call.Command.TheVariants.{Place as PlaceCall}
use Rattle.ic_world.specs.Prelude.{Family, LinkField, object, done, NoneLeftLinked, Step, table, table_of, no_table, field_in, represented_as, family_of, IsWhole, HasObject}
use Rattle.ic_world.specs.Replies.{reply_of_value}
use Rattle.ic_world.specs.Growth.{Grows}
use Rattle.ic_world.specs.Pieces.{PlacesValue, SwapsValue}
use Rattle.ic_world.proofs.Linked.{side, in_linked}
use Rattle.ic_world.proofs.Edits.{lawful}
use Rattle.ic_world.proofs.Growth.{grown_whole, grown_family}
use Rattle.ic_world.proofs.Steps.{step_accepted, step_refused, passes, fails}

-- p is linked in the field f of the family exactly if its entry in the table of f is linked
pub field_has : {M : Type 0} (tables : List (WorldField M)) (p : Place) (f : ℕ) (x : WorldField M) → f < length tables
    → set_of.contains (get_or (map field_in (map table_of tables)) f (field_in no_table)).linked (index_of p) ≡ is_linked ((table_of (get_or tables f x)).entry p)
field_has tables p f x in_bounds =
    ap (λ (t : LinkField). set_of.contains t.linked (index_of p)) (map_at field_in (map table_of tables) f no_table ∙ ap field_in (get_or-map table_of tables f x no_table in_bounds))
    ∙ in_linked (table_of (get_or tables f x)) (lawful_field (get_or tables f x).links) p

-- after a value was put at p, there is an object at p, and every other index has the value that it had
put_at : {V : Type 0} (old new : Objects V) (p : Place) (v : V) → new.values ≡ map_of.insert old.values (index_of p) v → (i : ℕ)
    → ((i ≡ index_of p) × HasObject new i) ⊎ ((i ≢ index_of p) × (map_of.get new.values i ≡ map_of.get old.values i))
put_at old new p v values i =
    let got = ap (λ m. map_of.get m i) values ∙ get-insert nat_cmp_total old.values (index_of p) v i in
    elim (cases_eq i (index_of p)) [
      | inl e ↦
          let yes : eq_by_cmp nat_cmp i (index_of p) ≡ true = unsigned_tied i (index_of p) ∙ eq-eqb i (index_of p) e in
          inl (e, ap is_some (got ∙ ap (λ b. cond b (Some v) (map_of.get old.values i)) yes))
      | inr d ↦
          let no : eq_by_cmp nat_cmp i (index_of p) ≡ false = unsigned_tied i (index_of p) ∙ ne_eqb i (index_of p) d in
          inr (d, got ∙ ap (λ b. cond b (Some v) (map_of.get old.values i)) no)
    ]

-- after the object at p was removed, there is no object at p, and every other index has the value that it had
removed_at : {V : Type 0} (old new : Objects V) (p : Place) → new.values ≡ map_of.remove old.values (index_of p) → (i : ℕ)
    → ((i ≡ index_of p) × (map_of.get new.values i ≡ None)) ⊎ ((i ≢ index_of p) × (map_of.get new.values i ≡ map_of.get old.values i))
removed_at old new p values i =
    let got = ap (λ m. map_of.get m i) values ∙ get-remove nat_cmp_total old.values (index_of p) i in
    elim (cases_eq i (index_of p)) [
      | inl e ↦
          let yes : eq_by_cmp nat_cmp i (index_of p) ≡ true = unsigned_tied i (index_of p) ∙ eq-eqb i (index_of p) e in
          inl (e, got ∙ ap (λ b. cond b None (map_of.get old.values i)) yes)
      | inr d ↦
          let no : eq_by_cmp nat_cmp i (index_of p) ≡ false = unsigned_tied i (index_of p) ∙ ne_eqb i (index_of p) d in
          inr (d, got ∙ ap (λ b. cond b None (map_of.get old.values i)) no)
    ]

module _ {V : Type 0} {objects : Objects V} {room : ℕ} {ts : List (Table Entry)} {cs : List (Option (Collection V))} (whole : IsWhole objects room ts cs) where
  -- a place that is linked in no field is unlinked in each table
  linked_nowhere : (p : Place) → list_any (λ (f : LinkField). set_of.contains f.linked (index_of p)) (map field_in ts) ≡ false → (f : ℕ) → is_linked ((table ts f).entry p) ≡ false
  linked_nowhere p none f = by (is_linked ((table ts f).entry p)) refl
    where
      has : LinkField → Bool
      has x = set_of.contains x.linked (index_of p)

      by : (b : Bool) → is_linked ((table ts f).entry p) ≡ b → is_linked ((table ts f).entry p) ≡ false
      by false e = e
      by true e = elim (side (length ts) f) [
        | inl past ↦ ap (λ (t : Table Entry). is_linked (t.entry p)) (get_or_past ts f no_table past)
        | inr in_bounds ↦
            let here : has (get_or (map field_in ts) f (field_in no_table)) ≡ true = ap has (map_at field_in ts f no_table) ∙ in_linked (table ts f) (lawful whole f) p ∙ e in
            absurd (let both : true ≡ false = sym (list_any_at has (map field_in ts) f (field_in no_table) (rw length-map in_bounds) here) ∙ none in cc)
      ]

module _ {V : Type 0} {old new : Objects V} {room : ℕ} {ts : List (Table Entry)} {cs : List (Option (Collection V))} (whole : IsWhole old room ts cs) where
  -- if A VALUE IS PUT at a place for which there is room, the invariant of the world still holds
  pub put_whole : (p : Place) (v : V) → new.values ≡ map_of.insert old.values (index_of p) v → (index_of p < room) × (index_of p < 2 ^ 32) → IsWhole new room ts cs
  put_whole p v values reach = record {
    in_bounds = λ i has. elim (put_at old new p v values i) [
      | inl here ↦ rw here.0 reach
      | inr there ↦ whole.in_bounds i (rw there.1 at has)
    ];
    covered = whole.covered;
    placed = λ f q h. elim (put_at old new p v values (index_of q)) [
      | inl here ↦ here.1
      | inr there ↦ rw there.1 (whole.placed f q h)
    ];
    in_field = whole.in_field;
    held = whole.held;
    apart = whole.apart;
  }

  -- if AN OBJECT IS REMOVED that is linked in no field, the invariant of the world still holds
  pub removed_whole : (p : Place) → new.values ≡ map_of.remove old.values (index_of p) → list_any (λ (f : LinkField). set_of.contains f.linked (index_of p)) (map field_in ts) ≡ false
      → IsWhole new room ts cs
  removed_whole p values none = record {
    in_bounds = λ i has. elim (removed_at old new p values i) [
      | inl gone ↦ absurd (let h = rw gone.1 at has in cc)
      | inr there ↦ whole.in_bounds i (rw there.1 at has)
    ];
    covered = whole.covered;
    placed = λ f q h. elim (removed_at old new p values (index_of q)) [
      | inl gone ↦ absurd (let no : is_linked ((table ts f).entry q) ≡ false = rw (same_index q p gone.0) (linked_nowhere whole p none f) in let both : true ≡ false = sym h ∙ no in cc)
      | inr there ↦ rw there.1 (whole.placed f q h)
    ];
    in_field = whole.in_field;
    held = whole.held;
    apart = whole.apart;
  }

-- the old value that `set_value` returns was the value of the object at p
pub value_was : {V : Type 0} (old : Objects V) (p : Place) (v : V) (r : Result V (Refusal × V)) (new : Objects V) → SwapsValue old p v r new → IfOk r (λ was. map_of.get old.values (index_of p) ≡ Some was)
value_was old p v (Ok was) new e = e.0
value_was old p v (Err x) new e = tt

-- `cmp` is the order of the keys, and `key_of` computes the key of a value
module _ {A V K : Type 0} (cmp : K → K → Ordering) (key_of : A → V → K) {adapter : A} {objects : Objects V} {room : ℕ} {ts : List (Table Entry)} {cs : List (Option (Collection V))}
    (whole : IsWhole objects room ts cs) {old : Family A V} (view : family_of adapter objects ts cs ≡ old) where
  -- A VALUE IS REPLACED OR REFUSED: the call is a step `SetValue`, and the invariant of the world holds after it
  pub value_swapped : (p : Place) (v : V) (r : Result V (Refusal × V)) (new : Objects V) → SwapsValue objects p v r new
      → IsWhole new room ts cs × Step cmp key_of old (SetValue p v) (reply_of_value (λ _. done) r) (family_of adapter new ts cs)
  value_swapped p v (Ok was) new e =
      let has : place_is_placed objects p ≡ true = ap is_some e.0 in (
        put_whole whole p v (ap (λ (o : Objects V). o.values) e.1) (whole.in_bounds (index_of p) has),
        rw (← view, e.1) (step_accepted cmp key_of (family_of adapter objects ts cs) (SetValue p v) done _ (passes _ NoSuchObject None has) (refl, refl)),
      )
  value_swapped p v (Err x) new e =
      rw (e.1, e.2) (whole, rw view (step_refused cmp key_of old (SetValue p v) NoSuchObject (rw (← view) (fails _ NoSuchObject None (ap is_some e.0)))))

  -- A VALUE IS PLACED OR REFUSED, after the tables have grown
  module _ {room' : ℕ} {us : List (Table Entry)} (grows : Grows room ts room' us) where
    longer_whole : IsWhole objects room' us cs
    longer_whole = grown_whole adapter objects ts us cs whole grows.grown room' grows.more (grows.covered whole.covered)

    same_family : family_of adapter objects us cs ≡ old
    same_family = grown_family adapter objects ts us cs whole grows.grown ∙ view

    pub none_grown : {left : List Bool} → NoneLeftLinked left old → (new : Objects V) → NoneLeftLinked left (family_of adapter new us cs)
    none_grown {left} none new = record { none = (subst (NoneLeftLinked left) (sym same_family) none).none }

    pub value_placed : objects.next < 2 ^ 32 → (has_room : Bool) → (has_room ≡ true → objects.next < room') → (v : V) (r : Result Place (Refusal × V)) (new : Objects V) → PlacesValue has_room objects v r new
        → IsWhole new room' us cs × Step cmp key_of old (PlaceCall v) (reply_of_value (λ p. object p) r) (family_of adapter new us cs)
    value_placed low has_room reach v (Ok p) new e =
        let put = e.1 in
        let here = reach e.0 in
        let next = put.next in
        let below : index_of p < 2 ^ 32 = omega (arith, low, next) in (
          put_whole longer_whole p v put.values (omega (arith, here, next), below),
          rw (← same_family) (put.vacant, below, λ i. record { adapter = adapter; objects = put.values i; fields = map field_in us; collections = map (represented_as us) cs }),
        )
    value_placed low has_room reach v (Err x) new e = rw (e.0, e.1) (longer_whole, same_family)
