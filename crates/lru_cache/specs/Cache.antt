-- A contract sees the entries of a cache, from the one that was touched last to the oldest, and the cache's capacity.
use Rattle.std.specs.Prelude.{◌≡◌, ℕ, ◌≤◌, Option, List, [], ◌∷◌, length, take, slice_get}
use Rattle.std.specs.Option.{option_map, option_or}
use Rattle.ic_keyed.specs.Keyed as keyed
use Rattle.ic_keyed.specs.Keyed.{KeyedValues}
use Rattle.lru_cache.specs.declared.entry.Entry.{Entry}

-- A cache has its entries, from the one touched last to the oldest, and its capacity. `parts` is the number of parts into which the index divides the
-- entries: a search compares only entries of one part
pub record Cache (V : Type 0) : Type 0 where
  pub entries : List (Entry V)
  pub capacity : ℕ
  pub parts : ℕ

module _ {V : Type 0} where
  -- `key_of` is the key of an entry, `pair_of` is its key with its value, and `entry_of` is the entry with a key and a value
  abbrev pub key_of : Entry V → ℕ
  key_of entry = entry.key

  abbrev pub pair_of : Entry V → ℕ × V
  pair_of entry = (entry.key, entry.value)

  abbrev pub entry_of : ℕ → V → Entry V
  entry_of key value = record { key = key; value = value }

  -- `entry_with` is the entry with the key, if there is one, and `value_with` is the value of this entry
  abbrev pub entry_with : ℕ → List (Entry V) → Option (Entry V)
  entry_with key entries = keyed.value_with key_of key entries

  abbrev pub value_with : ℕ → List (Entry V) → Option V
  value_with key entries = option_map (λ (entry : Entry V). entry.value) (entry_with key entries)

  -- `without` lists the entries without the one that has the key. `touched` lists the entries after the one that has the key has moved to the front
  abbrev pub without : ℕ → List (Entry V) → List (Entry V)
  without key entries = keyed.without key_of key entries

  abbrev pub touched : ℕ → List (Entry V) → List (Entry V)
  touched key entries = keyed.touched key_of key entries

  -- THE ENTRY IS INSERTED at the front and replaces the entry with its key. If there are then more entries than the capacity, the last ones are removed
  abbrev pub inserted : Entry V → Cache V → List (Entry V)
  inserted entry cache = take cache.capacity (entry ∷ without entry.key cache.entries)

  -- the entry that leaves the cache when `entry` is inserted: the entry with the same key, or else the last entry if the cache then has more entries than
  -- its capacity
  abbrev pub leaves : Entry V → Cache V → Option (Entry V)
  leaves entry cache = option_or (entry_with entry.key cache.entries) (slice_get (entry ∷ cache.entries) cache.capacity)

  -- the cache with the given entries instead of its own, and with its capacity and its number of parts
  abbrev pub with_entries : Cache V → List (Entry V) → Cache V
  with_entries cache entries = record { entries = entries; capacity = cache.capacity; parts = cache.parts }

  -- the cache with the given capacity, whose entries are the values of `kept`
  abbrev pub cache_of : ℕ → KeyedValues (Entry V) → Cache V
  cache_of capacity kept = record { entries = kept.values; capacity = capacity; parts = kept.parts }

  -- the cache has no entry. Its capacity is `most`, and its index has `count` parts
  pub record IsEmptyCache (most count : ℕ) (cache : Cache V) : Type 0 where
    pub entries : cache.entries ≡ []
    pub capacity : cache.capacity ≡ most
    pub parts : cache.parts ≡ count

  -- in each cache no key occurs twice, and there are at most as many entries as the capacity
  pub record IsSound (cache : Cache V) : Type 0 where
    pub own : keyed.HaveOwnKeys key_of cache.entries
    pub few : length cache.entries ≤ cache.capacity
