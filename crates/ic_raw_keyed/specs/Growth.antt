-- How the members of a hash table's chains move to the buckets of another array.
use Rattle.std.specs.Prelude.{◌≡◌, ◌⊎◌, ℕ, ◌%◌, eqb, cond, Some, List, [], ◌∷◌, length}
use Rattle.ic_link_ops.specs.Prelude.{Place, IsMember, Table}
use Rattle.ic_raw.specs.declared.words.RawFront.{RawFront}
use Rattle.ic_raw.specs.declared.words.RawOne.{RawOne}
use Rattle.ic_raw.specs.Prelude.{IsNoneOrLinked, bucket_at, key_of, front_of, word_of_front, is_linked_one}

-- the number of the bucket to which the hash of a place leads, among `count` buckets
abbrev pub slot_for : (hashes : List ℕ) → (count : ℕ) → Place → ℕ
slot_for hashes count p = key_of hashes p % count

-- the places of s whose hash leads to bucket i among `count` buckets, in the order in which they are in s
abbrev pub leading_to : (hashes : List ℕ) → (count i : ℕ) → List Place → List Place
leading_to hashes count i [] = []
leading_to hashes count i (p ∷ s) = cond (eqb (slot_for hashes count p) i) (p ∷ leading_to hashes count i s) (leading_to hashes count i s)

-- the bucket to which the hash of a place leads is empty, or begins with a linked place
abbrev pub LeadsToLinked : Table RawOne → (hashes : List ℕ) → List RawFront → Place → Type 0
LeadsToLinked t hashes buckets p = IsNoneOrLinked is_linked_one t (front_of (bucket_at buckets (slot_for hashes (length buckets) p)))

-- the word of bucket i is as it was, or it has exactly the bits that a call writes for a member of s whose hash leads to bucket i
abbrev pub StaysOrGets : (hashes : List ℕ) → (buckets buckets' : List RawFront) → List Place → ℕ → Type 0
StaysOrGets hashes buckets buckets' s i =
    (bucket_at buckets' i ≡ bucket_at buckets i)
    ⊎ ((p : Place) × IsMember p s × (slot_for hashes (length buckets) p ≡ i) × (bucket_at buckets' i ≡ word_of_front (Some p)))
