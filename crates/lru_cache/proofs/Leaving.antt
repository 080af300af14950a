-- Lemmas which say which entry leaves the cache and which entries remain, in each of the three cases of an insertion.
use Rattle.std.proofs.Common.{◌≡◌, is_some, ℕ, suc, ◌+◌, ◌≤◌, Bool, true, false, not, Option, None, Some, List, [], ◌∷◌, ◌++◌, length, take, filter, cond, refl, sym, ap, ◌∙◌, arith, length-append, true≢false, slice_get}
use Rattle.std.proofs.lemmas.List.{take_all, take-append-le}
use Rattle.std.proofs.lemmas.List.Filters.{length-filter_both}
use Rattle.std.proofs.lemmas.Option.{slice_get_past}
use Rattle.std.specs.Option.{option_or}
use Rattle.ic_link_ops.proofs.SequenceLemmas.{none_not}
use Rattle.ic_keyed.specs.Keyed as keyed
use Rattle.ic_keyed.specs.Keyed.{has_key, value_with, without, touched, BeginsWith, KeyedValues}
use Rattle.ic_container.specs.Values.{first_value}
use Rattle.ic_keyed.proofs.KeyLemmas.{some_there, touched_first, without_nothing}
use Rattle.lru_cache.specs.declared.entry.Entry.{Entry}
use Rattle.lru_cache.specs.Cache.{Cache, cache_of, key_of, inserted, leaves, with_entries}

-- if `is_some` returns false for an optional value, then the value is `None`
pub none_found : {X : Type 0} (o : Option X) → is_some o ≡ false → o ≡ None
none_found None e = refl
none_found (Some x) e = absurd (true≢false e)

-- a cache with other entries has the same capacity and the same number of parts
pub same_cache : {V : Type 0} (capacity : ℕ) (old : KeyedValues (Entry V)) {new : KeyedValues (Entry V)} {entries others : List (Entry V)} → new ≡ keyed.with_values old entries → entries ≡ others
    → cache_of capacity new ≡ with_entries (cache_of capacity old) others
same_cache capacity old is same = ap (cache_of capacity) is ∙ ap (with_entries (cache_of capacity old)) same

module _ {V : Type 0} where
  -- if an entry has the key, then the list of entries without this key is shorter by at least 1
  fewer : (key : ℕ) (entries : List (Entry V)) (gone : Entry V) → value_with key_of key entries ≡ Some gone → length (without key_of key entries) + 1 ≤ length entries
  fewer key [] gone e = absurd (none_not gone e)
  fewer key (x ∷ s) gone e = by (has_key key_of key x) e (λ f. fewer key s gone f) (length-filter_both (has_key key_of key) (λ d. not (has_key key_of key d)) (λ d. refl) s) where
    by : (b : Bool) → cond b (Some x) (value_with key_of key s) ≡ Some gone → (value_with key_of key s ≡ Some gone → length (without key_of key s) + 1 ≤ length s)
        → length (filter (has_key key_of key) s) + length (without key_of key s) ≡ length s → length (cond (not b) (x ∷ without key_of key s) (without key_of key s)) + 1 ≤ length (x ∷ s)
    by true e rest both = omega (arith, both)
    by false e rest both = omega (arith, rest e)

  -- If the entry with a key is removed, there are at most as many entries as before. After an entry is touched, there are as many entries as before
  pub few_without : (key capacity : ℕ) (entries : List (Entry V)) → length entries ≤ capacity → length (without key_of key entries) ≤ capacity
  few_without key capacity entries few = omega (arith, few, length-filter_both (has_key key_of key) (λ d. not (has_key key_of key d)) (λ d. refl) entries)

  pub few_touched : (key capacity : ℕ) (entries : List (Entry V)) → length entries ≤ capacity → length (touched key_of key entries) ≤ capacity
  few_touched key capacity entries few =
      omega (arith, few, length-filter_both (has_key key_of key) (λ d. not (has_key key_of key d)) (λ d. refl) entries, length-append (filter (has_key key_of key) entries) (without key_of key entries))

  -- THE TOUCHED ENTRY is the first entry of the cache, so that the cache has at least one entry
  module _ (key : ℕ) (entries : List (Entry V)) (old : KeyedValues (Entry V)) {new : KeyedValues (Entry V)} (is : new ≡ keyed.with_values old (touched key_of key entries)) (found : is_some (value_with key_of key entries) ≡ true) where
    first_touched : value_with key_of key entries ≡ first_value new.values
    first_touched = let there = some_there _ found in there.1 ∙ sym (touched_first key_of key entries there.1) ∙ sym (ap (λ (k : KeyedValues (Entry V)). first_value k.values) is)

    pub touched_entry : {first : Entry V} → BeginsWith first new.values → value_with key_of key entries ≡ Some first
    touched_entry begins = first_touched ∙ ap first_value begins.1

    pub some_touched : new.values ≡ [] → ⊥
    some_touched none = let there = some_there _ found in none_not there.0 (sym (sym there.1 ∙ first_touched ∙ ap first_value none))

  module _ (entry : Entry V) (cache : Cache V) where
    -- AN ENTRY HAS THE KEY of the inserted entry, and leaves the cache
    module _ (gone : Entry V) (found : value_with key_of entry.key cache.entries ≡ Some gone) where
      pub few_found : length cache.entries ≤ cache.capacity → length (entry ∷ without key_of entry.key cache.entries) ≤ cache.capacity
      few_found few = omega (arith, few, fewer entry.key cache.entries gone found)

      pub inserted_found : length cache.entries ≤ cache.capacity → entry ∷ without key_of entry.key cache.entries ≡ inserted entry cache
      inserted_found few = sym (take_all cache.capacity (entry ∷ without key_of entry.key cache.entries) (few_found few))

    module _ (none : value_with key_of entry.key cache.entries ≡ None) where
      left_none : slice_get (entry ∷ cache.entries) cache.capacity ≡ leaves entry cache
      left_none = sym (ap (λ (o : Option (Entry V)). option_or o (slice_get (entry ∷ cache.entries) cache.capacity)) none)

      -- THE OLDEST ENTRY of a full cache leaves, because no entry has the key
      module _ (front : List (Entry V)) (gone : Entry V) (is : cache.entries ≡ front ++ gone ∷ []) (full : length cache.entries ≡ cache.capacity) where
        room : cache.capacity ≡ suc (length front)
        room = omega (arith, full, ap length is, length-append front (gone ∷ []))

        pub inserted_full : entry ∷ front ≡ inserted entry cache
        inserted_full =
            let all = without_nothing key_of entry.key cache.entries none ∙ is in
            sym (take_all cache.capacity (entry ∷ front) (omega (arith, room))) ∙ sym (take-append-le cache.capacity (entry ∷ front) (gone ∷ []) (omega (arith, room)))
            ∙ ap (λ (l : List (Entry V)). take cache.capacity (entry ∷ l)) (sym all)

      -- NO ENTRY LEAVES, because the cache is not full and no entry has the key
      module _ (more : length cache.entries + 1 ≤ cache.capacity) where
        pub left_more : None ≡ leaves entry cache
        left_more = sym (slice_get_past (entry ∷ cache.entries) cache.capacity (omega (arith, more))) ∙ left_none

        pub inserted_more : entry ∷ cache.entries ≡ inserted entry cache
        inserted_more = sym (take_all cache.capacity (entry ∷ cache.entries) (omega (arith, more))) ∙ ap (λ (l : List (Entry V)). take cache.capacity (entry ∷ l)) (sym (without_nothing key_of entry.key cache.entries none))
