-- A store keeps its objects in a slab. This file proves that the map by which contracts describe the store contains, at each
-- place, what the slab contains under the place's index.
use Rattle.std.proofs.Common.{◌≡◌, ◌≢◌, ℕ, zero, suc, ◌+◌, ◌<◌, true, false, cond, List, [], ◌∷◌, Option, Some, None, is_some, IsSome, count_by, refl, sym, ap, subst, ◌∙◌, arith, eq-eqb, ne_eqb, add_comm}
use Rattle.std.specs.Ordering.{nat_cmp, eq_by_cmp}
use Rattle.std.specs.Cmp.{nat_cmp_total, unsigned_tied}
use Rattle.std.specs.Borrow.{MutBor}
use Rattle.std.specs.Option.{ghost_name_of, option_copied_mut}
use Rattle.std.specs.FinMap as map
use Rattle.std.specs.FinMap.{find, get-from_entries, get-insert, get-remove, len-insert, len-empty, same_map, nat_cmp-IsAntisymmetric}
use Rattle.std.proofs.lemmas.Bool.{cases_eq}
use Rattle.std.proofs.lemmas.List.Sums.{sum_by-cons}
use Rattle.std.proofs.Common.{inl, inr}
use Rattle.ic_unsafe_ref.specs.declared.place.Place.{Place}
use Rattle.ic_unsafe_ref.specs.Places.{index_of}
use Rattle.ic_unsafe_ref.specs.Objects.{Objects, Places, Frees, with_object}
use Rattle.slab.specs.Slab.{Slab, Updates, ContainsKey, entries, entries_from, get, slab_len, with_value}
use Rattle.slab.proofs.SlabLemmas.{Updates-with_value}
use borrow.Follows.Closed.{read_of}

pub tied : (q k : ℕ) → q ≡ k → eq_by_cmp nat_cmp q k ≡ true
tied q k e = unsigned_tied q k ∙ eq-eqb q k e

pub apart : (q k : ℕ) → q ≢ k → eq_by_cmp nat_cmp q k ≡ false
apart q k n = unsigned_tied q k ∙ ne_eqb q k n

module _ {T : Type 0} where
  -- The keys of `entries_from key slots` begin with `key`, so there is no entry under a smaller key.
  find_before : (key : ℕ) (slots : List (Option T)) (q : ℕ) → q < key → find nat_cmp q (entries_from key slots) ≡ None
  find_before key [] q h = refl
  find_before key (None ∷ slots) q h = find_before (key + 1) slots q (omega (arith, h))
  find_before key (Some v ∷ slots) q h =
      ap (λ b. cond b (Some v) (find nat_cmp q (entries_from (key + 1) slots))) (apart q key (λ e. omega (arith, e, h)))
      ∙ find_before (key + 1) slots q (omega (arith, h))

  -- Under the key `key + q` there is what the slot with the number q contains.
  find_at : (key : ℕ) (slots : List (Option T)) (q n : ℕ) → key + q ≡ n → find nat_cmp n (entries_from key slots) ≡ get (record { slots = slots; vacant_key = 0; capacity = 0 }) q
  find_at key [] q n e = refl
  find_at key (None ∷ slots) zero n e = find_before (key + 1) slots n (omega (arith, e))
  find_at key (None ∷ slots) (suc q) n e = find_at (key + 1) slots q n (omega (arith, e))
  find_at key (Some v ∷ slots) zero n e =
      ap (λ b. cond b (Some v) (find nat_cmp n (entries_from (key + 1) slots))) (tied n key (omega (arith, e)))
  find_at key (Some v ∷ slots) (suc q) n e =
      ap (λ b. cond b (Some v) (find nat_cmp n (entries_from (key + 1) slots))) (apart n key (λ k. omega (arith, e, k)))
      ∙ find_at (key + 1) slots q n (omega (arith, e))

  pub get_entries : (s : Slab T) (q : ℕ) → map.get (map.from_entries {R = nat_cmp} (entries s)) q ≡ get s q
  get_entries s q = get-from_entries nat_cmp_total (entries s) q ∙ find_at 0 s.slots q q (omega arith)

  -- The map of a slab's entries has as many entries as the slab has values.
  len_from : (key : ℕ) (slots : List (Option T)) → map.len (map.from_entries {R = nat_cmp} (entries_from key slots)) ≡ count_by is_some slots
  len_from key [] = len-empty nat_cmp T
  len_from key (None ∷ slots) = len_from (key + 1) slots
  len_from key (Some v ∷ slots) =
      let rest = map.from_entries {R = nat_cmp} (entries_from (key + 1) slots) in
      let none = get-from_entries nat_cmp_total (entries_from (key + 1) slots) key ∙ find_before (key + 1) slots key (omega arith) in
      let grown : map.len (map.insert rest key v) ≡ map.len rest + 1 =
      len-insert nat_cmp_total rest key v ∙ ap (λ o. cond (is_some o) (map.len rest) (map.len rest + 1)) none in
      grown ∙ ap (λ n. n + 1) (len_from (key + 1) slots) ∙ add_comm (count_by is_some slots) 1 ∙ sym (sum_by-cons _ (Some v) slots)

  pub len_entries : (s : Slab T) → map.len (map.from_entries {R = nat_cmp} (entries s)) ≡ slab_len s
  len_entries s = len_from 0 s.slots

  -- If a value is put into the slab under a key, the map of the slab's entries gets this value under the same key.
  pub insert_entries : (old new : Slab T) (key : ℕ) (v : T) → Updates old new key (Some v)
      → map.from_entries {R = nat_cmp} (entries new) ≡ map.insert (map.from_entries (entries old)) key v
  insert_entries old new key v updates =
      same_map nat_cmp_total nat_cmp-IsAntisymmetric _ _ (λ q.
      get_entries new q
      ∙ elim (cases_eq q key) [
        | inl e ↦ ap (get new) e ∙ updates.changed
            ∙ sym (get-insert nat_cmp_total (map.from_entries (entries old)) key v q
            ∙ ap (λ b. cond b (Some v) (map.get (map.from_entries {R = nat_cmp} (entries old)) q)) (tied q key e))
        | inr n ↦ updates.others q n ∙ sym (get_entries old q)
            ∙ sym (get-insert nat_cmp_total (map.from_entries (entries old)) key v q
            ∙ ap (λ b. cond b (Some v) (map.get (map.from_entries {R = nat_cmp} (entries old)) q)) (apart q key n))
      ])

  -- The store of objects that is kept in a slab, in the form in which contracts describe the store.
  abbrev seen : Slab T → Objects T
  seen s = record { values = map.from_entries (entries s); next = s.vacant_key }

  pub places_value : (old new : Slab T) (p : Place) (key : ℕ) (v : T) → index_of p ≡ key → key ≡ old.vacant_key → get old key ≡ None
      → Updates old new key (Some v) → Places (seen old) (seen new) p v
  places_value old new p key v at_key is_next vacant updates = record {
    next = at_key ∙ is_next;
    vacant = get_entries old (index_of p) ∙ ap (get old) at_key ∙ vacant;
    values = insert_entries old new key v updates ∙ ap (λ k. map.insert (map.from_entries {R = nat_cmp} (entries old)) k v) (sym at_key);
  }

  -- If a value is removed from the slab, the entry with its key is removed from the map of the slab's entries.
  pub remove_entries : (old new : Slab T) (key : ℕ) → Updates old new key None
      → map.from_entries {R = nat_cmp} (entries new) ≡ map.remove (map.from_entries (entries old)) key
  remove_entries old new key updates =
      same_map nat_cmp_total nat_cmp-IsAntisymmetric _ _ (λ q.
      get_entries new q
      ∙ elim (cases_eq q key) [
        | inl e ↦ ap (get new) e ∙ updates.changed
            ∙ sym (get-remove nat_cmp_total (map.from_entries (entries old)) key q
            ∙ ap (λ b. cond b None (map.get (map.from_entries {R = nat_cmp} (entries old)) q)) (tied q key e))
        | inr n ↦ updates.others q n ∙ sym (get_entries old q)
            ∙ sym (get-remove nat_cmp_total (map.from_entries (entries old)) key q
            ∙ ap (λ b. cond b None (map.get (map.from_entries {R = nat_cmp} (entries old)) q)) (apart q key n))
      ])

  pub frees_value : (old new : Slab T) (p : Place) (key : ℕ) → key ≡ index_of p → new.vacant_key ≡ key → Updates old new key None
      → Frees (seen old) (seen new) p
  frees_value old new p key at_key is_next updates = record {
    next = is_next ∙ at_key;
    values = remove_entries old new key updates ∙ ap (map.remove (map.from_entries {R = nat_cmp} (entries old))) at_key;
  }

  -- If a value is written at a key of the slab, the store has this value at the place with this index.
  written : (s : Slab T) (key : ℕ) (p : Place) → key ≡ index_of p → ContainsKey s key → (w : T) → seen (with_value s key w) ≡ with_object (seen s) p w
  written s key p at_key present w =
      ap (λ m. let o : Objects T = record { values = m; next = s.vacant_key } in o)
      (insert_entries s (with_value s key w) key w (Updates-with_value s key w present)
      ∙ ap (λ k. map.insert (map.from_entries {R = nat_cmp} (entries s)) k w) at_key)

  -- A borrow of the slab at a key lends the objects at the place with this index.
  pub lent_alike : (s : Slab T) (key : ℕ) (p : Place) (r : Option (MutBor T)) → key ≡ index_of p → option_copied_mut r ≡ get s key
      → read_of (ghost_name_of r) (λ w. seen (with_value s key w)) (seen s) ≡ read_of (ghost_name_of r) (with_object (seen s) p) (seen s)
  lent_alike s key p None at_key is = refl
  lent_alike s key p (Some x) at_key is =
      λ t. read_of (ghost_name_of (Some x)) (λ (w : T). written s key p at_key (subst IsSome is refl) w t) (seen s)
