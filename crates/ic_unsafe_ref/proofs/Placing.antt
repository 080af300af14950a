-- The facts in this file help callers to know which value is at each place after a value was put there or removed.
use Rattle.std.proofs.Common.{◌≡◌, ◌≢◌, ℕ, true, cond, Some, None, is_some, inl, inr, refl, sym, ap, ◌∙◌}
use Rattle.std.proofs.lemmas.Bool.{cases_eq}
use Rattle.std.specs.Cmp.{nat_cmp_total}
use Rattle.std.specs.FinMap as map
use Rattle.std.specs.FinMap.{get-insert, get-remove, same_map, nat_cmp-IsAntisymmetric}
use Rattle.std.specs.Ordering.{nat_cmp, eq_by_cmp}
use Rattle.ic_unsafe_ref.specs.declared.place.Place.{Place}
use Rattle.ic_unsafe_ref.specs.Places.{index_of}
use Rattle.ic_unsafe_ref.specs.Objects.{Objects, Places, Frees, object_at, is_placed, with_object}
use Rattle.ic_unsafe_ref.proofs.PlaceLemmas.{same_index, same_or_not}
use Rattle.ic_unsafe_ref.proofs.ObjectLemmas.{tied, apart}

-- The value `value` is put at p, whether p had a value or not. The values at all other places stay.
pub record Puts {T : Type 0} (old new : Objects T) (p : Place) (value : T) : Type 0 where
  pub values : new.values ≡ map.insert old.values (index_of p) value

module _ {T : Type 0} {old new : Objects T} {p : Place} {value : T} (puts : Puts old new p value) where
  put_index : (i : ℕ) → map.get new.values i ≡ cond (eq_by_cmp nat_cmp i (index_of p)) (Some value) (map.get old.values i)
  put_index i = ap (λ m. map.get m i) puts.values ∙ get-insert nat_cmp_total old.values (index_of p) value i

  -- The value that was put at p is at p afterwards.
  pub put_there : object_at new p ≡ Some value
  put_there = put_index (index_of p) ∙ ap (λ b. cond b (Some value) (object_at old p)) (tied (index_of p) (index_of p) refl)

  -- Every place except p has the same value as before, or still no value.
  pub put_beside : (i : ℕ) → i ≢ index_of p → map.get new.values i ≡ map.get old.values i
  put_beside i n = put_index i ∙ ap (λ b. cond b (Some value) (map.get old.values i)) (apart i (index_of p) n)

  pub put_others : (q : Place) → q ≢ p → object_at new q ≡ object_at old q
  put_others q n = put_beside (index_of q) (λ e. n (same_index q p e))

  -- If p had a value before, the same places have values before and after.
  pub still_placed : is_placed old p ≡ true → (q : Place) → is_placed new q ≡ is_placed old q
  still_placed is q = elim (same_or_not q p) [
    | inl e ↦ ap (is_placed new) e ∙ ap is_some put_there ∙ sym (ap (is_placed old) e ∙ is)
    | inr n ↦ ap is_some (put_others q n)
  ]

module _ {T : Type 0} {old new : Objects T} {p : Place} where
  -- If an object is placed at p (`Places`), it is put at p (`Puts`).
  pub placed_puts : {value : T} → Places old new p value → Puts old new p value
  placed_puts places = record { values = places.values }

  pub placed_there : {value : T} → Places old new p value → object_at new p ≡ Some value
  placed_there places = put_there (placed_puts places)

  pub others_placed : {value : T} → Places old new p value → (q : Place) → q ≢ p → object_at new q ≡ object_at old q
  others_placed places = put_others (placed_puts places)

  -- After the value at p is removed, every other place has the same value as before, or still no value.
  pub others_left : Frees old new p → (q : Place) → q ≢ p → object_at new q ≡ object_at old q
  others_left frees q n =
      ap (λ m. map.get m (index_of q)) frees.values ∙ get-remove nat_cmp_total old.values (index_of p) (index_of q)
      ∙ ap (λ b. cond b None (object_at old q)) (apart (index_of q) (index_of p) (λ e. n (same_index q p e)))

  -- After the value at p is removed, there is no value at p.
  pub gone_there : Frees old new p → object_at new p ≡ None
  gone_there frees =
      ap (λ m. map.get m (index_of p)) frees.values ∙ get-remove nat_cmp_total old.values (index_of p) (index_of p)
      ∙ ap (λ b. cond b None (object_at old p)) (tied (index_of p) (index_of p) refl)

-- If `with_object` writes a value at p, this value is put at p (`Puts`).
pub exchanged_puts : {T : Type 0} {old new : Objects T} {p : Place} {value : T} → new ≡ with_object old p value → Puts old new p value
exchanged_puts exchanged = record { values = ap (λ objects. objects.values) exchanged }

-- If another value is written at p, the result is the same as if the value at p were removed (`leaves`) and the new value were
-- then placed at p.
module _ {T : Type 0} (objects : Objects T) (p : Place) (value : T) where
  abbrev pub without : Objects T
  without = record { values = map.remove objects.values (index_of p); next = index_of p }

  pub leaves : Frees objects without p
  leaves = record { next = refl; values = refl }

  put_back : map.insert objects.values (index_of p) value ≡ map.insert (map.remove objects.values (index_of p)) (index_of p) value
  put_back = same_map nat_cmp_total nat_cmp-IsAntisymmetric _ _ (λ q.
      get-insert nat_cmp_total objects.values (index_of p) value q
      ∙ elim (cases_eq q (index_of p)) [
        | inl e ↦ ap (λ b. cond b (Some value) (map.get objects.values q)) (tied q (index_of p) e) ∙ sym (ap (λ b. cond b (Some value) (map.get (map.remove objects.values (index_of p)) q)) (tied q (index_of p) e))
        | inr n ↦ ap (λ b. cond b (Some value) (map.get objects.values q)) (apart q (index_of p) n)
            ∙ sym (get-remove nat_cmp_total objects.values (index_of p) q ∙ ap (λ b. cond b None (map.get objects.values q)) (apart q (index_of p) n))
            ∙ sym (ap (λ b. cond b (Some value) (map.get (map.remove objects.values (index_of p)) q)) (apart q (index_of p) n))
      ]
      ∙ sym (get-insert nat_cmp_total (map.remove objects.values (index_of p)) (index_of p) value q))

  pub puts_other : Puts objects (with_object objects p value) p value
  puts_other = record { values = refl }

  pub places_other : Places without (with_object objects p value) p value
  places_other = record { next = refl; vacant = gone_there leaves; values = put_back }
