-- A hash table is an array of buckets in words that a caller lends. Each bucket is the singly linked list of the members whose hash leads to it.
use Rattle.std.specs.Prelude.{◌≡◌, ◌≢◌, ◌<◌, ℕ, ◌%◌, Bool, true, nat_eq, cond, Option, None, List, length, slice_index_or}
use Rattle.ic_link_ops.specs.Prelude.{Place, IsDisjoint, IsLinked}
use Rattle.ic_raw.specs.declared.status.TheConstants.{OK, OUT_OF_RANGE}
use Rattle.ic_raw.specs.declared.words.RawOne.{RawOne}
use Rattle.ic_raw.specs.declared.words.RawFront.{RawFront}
use Rattle.ic_raw.specs.Keys.{key_of}
use Rattle.ic_raw.specs.Singly.{LeadsFrom, RepresentsList, table_of, word_of_front}
use Rattle.ic_raw.specs.Words.{is_linked_one, HasNumber}

-- `slot_of` is the number of the bucket to which a hash leads: the remainder after the hash is divided by the number of buckets
abbrev pub slot_of : List RawFront → ℕ → ℕ
slot_of buckets hash = hash % length buckets

-- `bucket_at` is the words of the bucket with the number i, or the words of an empty list if there is no bucket with this number
abbrev pub bucket_at : List RawFront → ℕ → RawFront
bucket_at buckets i = slice_index_or buckets i (word_of_front None)

-- THE CHAIN OF A HASH is the list in the bucket to which the hash leads
abbrev pub chain_of : List RawFront → ℕ → RawFront
chain_of buckets hash = bucket_at buckets (slot_of buckets hash)

-- THE FAULT OF BUCKETS: the fault is `OUT_OF_RANGE` if there are no buckets, or else `OK`
abbrev pub buckets_fault : List RawFront → ℕ
buckets_fault buckets = cond (nat_eq (length buckets) 0) OUT_OF_RANGE OK

-- `new` has as many buckets as `old`, and only the bucket to which this hash leads may have changed
pub record ChangesOnlyChain (old new : List RawFront) (hash : ℕ) : Type 0 where
  pub count : length new ≡ length old
  pub others : (i : ℕ) → i ≢ slot_of old hash → bucket_at new i ≡ bucket_at old i

-- `has_key` says whether the key of the place p is `key`
abbrev pub has_key : List ℕ → ℕ → Place → Bool
has_key keys key p = nat_eq (key_of keys p) key

-- `number` is the number of a linked place with this key, and the links lead from the place `front` to this place
abbrev pub NamesKey : List RawOne → (front : Option Place) → List ℕ → ℕ → ℕ → Type 0
NamesKey words front keys key number =
    (q : Place) × IsLinked is_linked_one (table_of words) q × (has_key keys key q ≡ true) × HasNumber q number × LeadsFrom (table_of words) front q

-- THE BUCKETS HOLD THESE CHAINS: the bucket with the number i represents the sequence `chains i`, and no two of the sequences share a member
pub record HoldsChains (words : List RawOne) (buckets : List RawFront) (chains : ℕ → List Place) : Type 0 where
  pub shown : (i : ℕ) → i < length buckets → RepresentsList words (bucket_at buckets i) (chains i)
  pub apart : (i j : ℕ) → i < length buckets → j < length buckets → i ≢ j → IsDisjoint (chains i) (chains j)
