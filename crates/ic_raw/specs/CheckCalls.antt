-- Each record of this file is the whole contract of one call that checks a list, a tree or a hash table.
use Rattle.std.specs.Prelude.{◌≡◌, ◌≢◌, ◌<◌, ◌≤◌, ◌++◌, ◌∷◌, ℕ, zero, suc, List, [], length}
use Rattle.std.specs.List.{AllByRecursion}
use Rattle.ic_unsafe_ref.specs.declared.place.Place.{Place}
use Rattle.ic_check.specs.Checked.{IsRepresented, RepresentsNone}
use Rattle.ic_raw.specs.declared.status.TheConstants.{OK, BROKEN}
use Rattle.ic_raw.specs.declared.words.RawFront.{RawFront}
use Rattle.ic_raw.specs.declared.words.RawOne.{RawOne}
use Rattle.ic_raw.specs.Answers.{IsStatus, refusal}
use Rattle.ic_raw.specs.Hash.{slot_of, bucket_at, buckets_fault, HoldsChains}
use Rattle.ic_raw.specs.Keys.{key_of, keys_fault}
use Rattle.ic_raw.specs.Singly.{RepresentsList}

-- `old` and `new` are the words of the table before the call and after it. `status` is the status that the call returns
module _ {W : Type 0} (old new : List W) (status : ℕ) where
  -- THE MEMBERS ARE COUNTED. `Represented s` says that the words represent the sequence s. The caller's variable contains `was` before the call and
  -- `members` after it. If the call is accepted, `members` is the number of members of such a sequence
  pub record CheckCall (Represented : List Place → Type 0) (was members : ℕ) : Type 0 where
    pub shown : status ≡ OK → IsRepresented Represented members
    pub not_represented : status ≢ OK → RepresentsNone Represented
    pub refused : status ≢ OK → members ≡ was
    pub same : new ≡ old
    pub why : status ≢ OK → status ≡ BROKEN
    pub is_status : IsStatus status

-- the hash of the place p, which is in the list `hashes`, leads to the bucket with the number i
abbrev pub BelongsIn : (hashes : List ℕ) → List RawFront → ℕ → Place → Type 0
BelongsIn hashes buckets i p = slot_of buckets (key_of hashes p) ≡ i

-- s is the chain in bucket i, and the hash of each member leads to that bucket
pub record IsOwnChain (words : List RawOne) (hashes : List ℕ) (buckets : List RawFront) (i : ℕ) (s : List Place) : Type 0 where
  pub shown : RepresentsList words (bucket_at buckets i) s
  pub own : AllByRecursion (BelongsIn hashes buckets i) s

-- `members_of chains n` is the list of all members of the first n chains, one chain after the other
abbrev pub members_of : (chains : ℕ → List Place) → ℕ → List Place
members_of chains zero = []
members_of chains (suc i) = members_of chains i ++ chains i

-- THE BUCKETS HOLD s BY THESE HASHES: the hash of each member leads to the bucket that has the member, and s is the members of all buckets, one
-- bucket after the other
pub record HoldsByHash (words : List RawOne) (hashes : List ℕ) (buckets : List RawFront) (s : List Place) : Type 0 where
  pub chains : ℕ → List Place
  pub holds : HoldsChains words buckets chains
  pub own : (i : ℕ) → i < length buckets → AllByRecursion (BelongsIn hashes buckets i) (chains i)
  pub all : s ≡ members_of chains (length buckets)

-- `hashes` has one hash for each place. The caller's variable for the number of members contains `was` before the call and `members` after it
module _ (hashes : List ℕ) (old new : List RawOne) (status was members : ℕ) where
  -- THE MEMBERS OF ALL CHAINS ARE COUNTED if three conditions hold: each chain ends, no two chains share a member, and each member is in the bucket
  -- to which its hash leads
  pub record HashCheckCall (buckets : List RawFront) : Type 0 where
    pub shown : status ≡ OK → IsRepresented (HoldsByHash old hashes buckets) members
    pub not_represented : status ≢ OK → length old ≤ length hashes → 1 ≤ length buckets → RepresentsNone (HoldsByHash old hashes buckets)
    pub looked : status ≡ OK → (length old ≤ length hashes) × (1 ≤ length buckets)
    pub refused : status ≢ OK → members ≡ was
    pub same : new ≡ old
    pub why : status ≢ OK → status ≡ refusal (keys_fault hashes (length old) ∷ buckets_fault buckets ∷ [])
    pub is_status : IsStatus status
