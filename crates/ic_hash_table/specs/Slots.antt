-- These definitions say in which chain a hash belongs, by linear hashing.
use Rattle.std.specs.Prelude.{◌≡◌, ℕ, ◌+◌, ◌*◌, ◌^◌, ◌≢◌, ◌<◌, ◌≤◌, ◌/◌, cond, ltb, bit_and}
use Rattle.ic_hash_table.specs.declared.slots.Slots.{Slots}

-- the number of the chain where a hash belongs, which is made of the bits of the hash within the mask. If the chain of this number is not in use yet, the bits
-- within half of the mask are the number
abbrev pub slot_of : Slots → ℕ → ℕ
slot_of s hash = cond (ltb (bit_and hash s.mask) s.used) (bit_and hash s.mask) (bit_and (bit_and hash s.mask) (s.mask / 2))

-- THE SLOTS ARE WELL FORMED: the mask is a power of 2 minus one, and the chains in use have more than half of the numbers from 0 to the mask
pub record IsWellFormed (s : Slots) : Type 0 where
  pub half : s.mask + 1 < 2 * s.used
  pub in_bounds : s.used ≤ s.mask + 1
  pub mask : (k : ℕ) × (s.mask + 1 ≡ 2 ^ k)

-- the number of the chain that had the members of chain i before chain i came into use
abbrev pub split_of : Slots → ℕ → ℕ
split_of s i = bit_and i (s.mask / 2)

-- `new` has one more chain in use than `old`. Each hash that belongs in the new chain belonged in the chain `split_of new old.used` before. Every other hash
-- belongs in the same chain as before
pub record IsSplit (old new : Slots) : Type 0 where
  pub used : new.used ≡ old.used + 1
  pub from : (hash : ℕ) → slot_of new hash ≡ old.used → slot_of old hash ≡ split_of new old.used
  pub others : (hash : ℕ) → slot_of new hash ≢ old.used → slot_of new hash ≡ slot_of old hash
  pub apart : split_of new old.used < old.used
