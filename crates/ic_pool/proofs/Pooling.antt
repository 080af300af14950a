-- The facts in this file help callers to prove that objects stay pooled with the table of their links (`IsPooled`). If a pool has
-- several tables, use these facts for each table.
use Rattle.std.specs.Prelude.{⊤}
use Rattle.std.proofs.Common.{◌≡◌, ◌↔◌, ℕ, ◌^◌, ◌≤◌, leb, Bool, true, false, Result, Err, Option, None, Some, is_some, inl, inr, refl, sym, ap, ◌∙◌, arith}
use Rattle.std.proofs.lemmas.Bool.{le-leb, false_from_ne_true}
use Rattle.std.proofs.lemmas.Bool.Decides.{leb_tells}
use Rattle.ic_link_ops.specs.Prelude.{Place, index_of, Objects, Places, Frees, object_at, is_placed, Table, IsCovered, IsUnlinked, LinksAlso, Unlinks, link_of, entries, table, linked_by, Width, nameable}
use Rattle.ic_link_ops.proofs.Prelude.{same_or_not, placed_there, others_placed, gone_there, others_left}
use Rattle.ic_link_ops.specs.declared.table.PlainTable.{PlainTable}
use Rattle.ic_link_ops.specs.EntryLaws.{linked_in_range}
use Rattle.ic_pool.specs.declared.place_error.PlaceError.{PlaceError}
use Rattle.ic_pool.specs.declared.place_error.PlaceError.TheVariants.{NoPlaceLeft, OutOfMemory}
use Rattle.ic_pool.specs.Pooled.{Grows, IsPooled}
use Rattle.ic_pool.specs.Refusals.{lacks_place, value_of}

-- If there is no object, and a plain table covers no place, the objects are pooled with the table.
pub pooled_first : {W A T : Type 0} (w : Width) (is_linked : W → Bool) (unlinked : W) → is_linked unlinked ≡ false → (links : PlainTable W A ⊤) {objects : Objects T}
    → (table w unlinked links).extent.places ≡ 0 → ((p : Place) → object_at objects p ≡ None) → IsPooled (linked_by is_linked) objects (table w unlinked links)
pooled_first w is_linked unlinked starts links {objects} none vacant = record {
  covered = λ p is. let never : false ≡ true = sym (ap is_some (vacant p)) ∙ is in absurd (cc);
  vacant = λ p gone. false_from_ne_true _ (λ is.
      let within = linked_in_range (linked_by is_linked) (link_of unlinked) starts (nameable w (entries links)) (index_of p) is in
      absurd (omega (arith, within, none)));
}

none_placed : {T : Type 0} (o : Option T) → is_some o ≡ false → o ≡ None
none_placed None h = refl
none_placed (Some v) h = let never : true ≡ false = h in absurd (cc)

module _ {E T : Type 0} {linked : E → Bool} {old : Objects T} {a : Table E} (pooled : IsPooled linked old a) where
  -- After `place`, accepted or refused, the old objects are pooled with the table, which may have grown.
  pub pooled_grown : {b : Table E} → Grows a b → IsPooled linked old b
  pooled_grown grows = record { covered = λ p is. grows.covered p (pooled.covered p is); vacant = λ p none. rw (grows.entries p) (pooled.vacant p none) }

  -- After `place` has accepted a value, the objects, including the new one, are pooled with the table.
  pub pooled_placed : {b : Table E} {new : Objects T} {p : Place} {v : T} → Grows a b → Places old new p v → IsCovered b p → IsPooled linked new b
  pooled_placed {b} {new} {p} grows places room = record {
    covered = λ q is. elim (same_or_not q p) [
      | inl e ↦ rw e room
      | inr other ↦ grows.covered q (pooled.covered q (ap is_some (sym (others_placed places q other)) ∙ is))
    ];
    vacant = λ q none. elim (same_or_not q p) [
      | inl e ↦ let never : None ≡ Some _ = sym none ∙ ap (object_at new) e ∙ placed_there places in absurd (cc)
      | inr other ↦ rw (grows.entries q) (pooled.vacant q (sym (others_placed places q other) ∙ none))
    ];
  }

  -- A newly placed object is unlinked, so a plain table does not refuse to link it.
  pub new_is_free : {b : Table E} {new : Objects T} {p : Place} {v : T} → Grows a b → Places old new p v → IsUnlinked linked b p
  new_is_free {p = p} grows places = rw (grows.entries p) (pooled.vacant p places.vacant)

  -- After an object was linked, the objects are still pooled with the table. The place that was linked has to have an object.
  pub pooled_linked : {b : Table E} {p : Place} → is_placed old p ≡ true → LinksAlso linked a b p → b.extent ≡ a.extent → IsPooled linked old b
  pooled_linked {b} {p} is also extent = record {
    covered = λ q placed. let room = pooled.covered q placed in rw extent room;
    vacant = λ q none. elim (same_or_not q p) [
      | inl e ↦ let never : false ≡ true = ap is_some (sym none) ∙ ap (is_placed old) e ∙ is in absurd (cc)
      | inr other ↦ also.others q other ∙ pooled.vacant q none
    ];
  }

  -- After an object was unlinked, the objects are still pooled with the table.
  pub pooled_unlinked : {b : Table E} {p : Place} → Unlinks linked a b p → b.extent ≡ a.extent → IsPooled linked old b
  pooled_unlinked {b} {p} off extent = record {
    covered = λ q placed. let room = pooled.covered q placed in rw extent room;
    vacant = λ q none. elim (same_or_not q p) [
      | inl e ↦ rw e off.is
      | inr other ↦ off.others q other ∙ pooled.vacant q none
    ];
  }

  -- After an object was changed, for example through `get_mut`, the objects are still pooled with the table, because the same
  -- places have objects.
  pub pooled_changed : {new : Objects T} → ((p : Place) → is_placed new p ≡ is_placed old p) → IsPooled linked new a
  pooled_changed {new} same = record {
    covered = λ p is. pooled.covered p (sym (same p) ∙ is);
    vacant = λ p none. pooled.vacant p (none_placed (object_at old p) (sym (same p) ∙ ap is_some none));
  }

  -- After `remove` of an object that is unlinked, the remaining objects are pooled with the table.
  pub pooled_freed : {new : Objects T} {p : Place} → IsUnlinked linked a p → Frees old new p → IsPooled linked new a
  pooled_freed {new} {p} free frees = record {
    covered = λ q is. elim (same_or_not q p) [
      | inl e ↦ let never : false ≡ true = ap is_some (sym (gone_there frees)) ∙ ap (is_placed new) (sym e) ∙ is in absurd (cc)
      | inr other ↦ pooled.covered q (ap is_some (sym (others_left frees q other)) ∙ is)
    ];
    vacant = λ q none. elim (same_or_not q p) [
      | inl e ↦ rw e free
      | inr other ↦ pooled.vacant q (sym (others_left frees q other) ∙ none)
    ];
  }

-- The error says that no place was left exactly if no place was left. The argument `full` is the clause `full` of the contract of
-- `place`, and `same` is the first part of the clause `refused`.
pub lacks_exactly : {T X : Type 0} (refused : PlaceError T) {value : T} (next : ℕ) → ((let r : Result X (PlaceError T) = Err refused in r ≡ Err (NoPlaceLeft value)) ↔ (2 ^ 32 ≤ next)) → value_of refused ≡ value
    → lacks_place refused ≡ leb (2 ^ 32) next
lacks_exactly {T} {X} (NoPlaceLeft v) {value} next full same =
    let told : (let r : Result X (PlaceError T) = Err (NoPlaceLeft v) in r ≡ Err (NoPlaceLeft value)) = ap (λ (x : T). Err (NoPlaceLeft x)) same in sym (le-leb (2 ^ 32) next (full.0 told))
lacks_exactly {T} {X} (OutOfMemory v) {value} next full same = elim (leb_tells (2 ^ 32) next) [
  | inl h ↦ let never : (let r : Result X (PlaceError T) = Err (OutOfMemory v) in r ≡ Err (NoPlaceLeft value)) = full.1 h.1 in absurd (cc)
  | inr h ↦ sym h.0
]
