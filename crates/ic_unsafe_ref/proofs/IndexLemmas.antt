-- This file proves facts about the store `at_indexes values`, in which each value of a list is at the place with the value's
-- index in the list.
use Rattle.std.proofs.Common.{◌≡◌, ℕ, zero, suc, ◌+◌, ◌<◌, true, false, cond, List, [], ◌∷◌, Option, Some, None, is_some, length, map, slice_index_or, slice_set, inl, inr, refl, sym, ap, ◌∙◌, arith, nat_cmp}
use Rattle.std.proofs.lemmas.Bool.{cases_eq}
use Rattle.std.proofs.lemmas.Grind.{get_or-set_at}
use Rattle.std.proofs.lemmas.List.{get_or-set_other, length-map, length-set, map-set}
use Rattle.std.specs.Cmp.{nat_cmp_total}
use Rattle.std.specs.List.{enumerate_from}
use Rattle.std.specs.FinMap as fin_map
use Rattle.std.specs.FinMap.{get-insert, same_map, nat_cmp-IsAntisymmetric}
use Rattle.slab.specs.Slab.{Slab, entries_from}
use Rattle.ic_unsafe_ref.specs.declared.place.Place.{Place}
use Rattle.ic_unsafe_ref.specs.Places.{index_of}
use Rattle.ic_unsafe_ref.specs.Objects.{object_at, is_placed, with_object, at_indexes}
use Rattle.ic_unsafe_ref.proofs.ObjectLemmas.{apart, get_entries, tied}

module _ {T : Type 0} where
  -- The slab that has the elements of a list in its slots, and no vacant slot.
  full : List T → Slab T
  full values = record { slots = map (λ (v : T). Some v) values; vacant_key = length values; capacity = length values }

  full_entries : (key : ℕ) (values : List T) → entries_from key (map (λ (v : T). Some v) values) ≡ enumerate_from key values
  full_entries key [] = refl
  full_entries key (v ∷ values) = ap (λ rest. (key, v) ∷ rest) (full_entries (key + 1) values)

  slot_at : (values : List T) (i : ℕ) → fin_map.get (at_indexes values).values i ≡ slice_index_or (map (λ (v : T). Some v) values) i None
  unfolding full
  slot_at values i = ap (λ entries. fin_map.get (fin_map.from_entries {R = nat_cmp} entries) i) (sym (full_entries 0 values)) ∙ get_entries (full values) i

  slot_of : (values : List T) (p : Place) → object_at (at_indexes values) p ≡ slice_index_or (map (λ (v : T). Some v) values) (index_of p) None
  slot_of values p = slot_at values (index_of p)

  slot_there : (values : List T) (i : ℕ) → is_some (slice_index_or (map (λ (v : T). Some v) values) i None) ≡ true
      → (i < length values) × ((d : T) → slice_index_or (map (λ (v : T). Some v) values) i None ≡ Some (slice_index_or values i d))
  slot_there [] i h = let never : false ≡ true = h in absurd (cc)
  slot_there (v ∷ values) zero h = (omega (arith), λ d. refl)
  slot_there (v ∷ values) (suc i) h = let rest = slot_there values i h in (omega (arith, rest.0), rest.1)

  -- If there is a value at the place p, the index of p is below the length of the list, and the value is the element at this
  -- index.
  pub in_range : (values : List T) (p : Place) {i : ℕ} → i ≡ index_of p → is_placed (at_indexes values) p ≡ true
      → (i < length values) × ((d : T) → object_at (at_indexes values) p ≡ Some (slice_index_or values i d))
  in_range values p at_index placed =
      let there = slot_there values (index_of p) (ap is_some (sym (slot_of values p)) ∙ placed) in
      rw at_index (there.0, λ d. slot_of values p ∙ there.1 d)

  -- There is a value at each place whose index is below the length of the list.
  has_slot : (values : List T) (i : ℕ) → i < length values → is_some (slice_index_or (map (λ (v : T). Some v) values) i None) ≡ true
  has_slot [] i h = absurd (omega (arith, h))
  has_slot (v ∷ values) zero h = refl
  has_slot (v ∷ values) (suc i) h = has_slot values i (omega (arith, h))

  pub placed_in_range : (values : List T) (p : Place) → index_of p < length values → is_placed (at_indexes values) p ≡ true
  placed_in_range values p h = ap is_some (slot_of values p) ∙ has_slot values (index_of p) h

  -- If a value is written in the list at the index of the place p, the store is the old one with this value at p. The index has
  -- to be below the length of the list.
  pub set_at_index : (values : List T) (p : Place) (v : T) → index_of p < length values → at_indexes (slice_set values (index_of p) v) ≡ with_object (at_indexes values) p v
  set_at_index values p v within =
      let i = index_of p in
      let some : T → Option T = λ v. Some v in
      let slots = map some values in
      let old = (at_indexes values).values in
      let there : (q : ℕ) → fin_map.get (at_indexes (slice_set values i v)).values q ≡ fin_map.get (fin_map.insert old i v) q =
      λ q. slot_at (slice_set values i v) q ∙ ap (λ l. slice_index_or l q None) (map-set some values i v)
      ∙ elim (cases_eq q i) [
        | inl e ↦ get_or-set_at slots i q (Some v) None e (omega (arith, within, length-map values some)) ∙ sym (ap (λ b. cond b (Some v) (fin_map.get old q)) (tied q i e))
        | inr n ↦ get_or-set_other slots i q (Some v) None n ∙ sym (slot_at values q) ∙ sym (ap (λ b. cond b (Some v) (fin_map.get old q)) (apart q i n))
      ]
      ∙ sym (get-insert nat_cmp_total old i v q) in
      λ k. record { values = same_map nat_cmp_total nat_cmp-IsAntisymmetric _ _ there k; next = length-set values i v k }
