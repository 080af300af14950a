-- The contract of the call by which a hash table grows. The record is the whole contract.
use Rattle.std.specs.Prelude.{◌≡◌, ◌≢◌, ◌≤◌, ◌<◌, ◌∷◌, ◌++◌, ℕ, List, [], None, length}
use Rattle.std.specs.List.{AllByRecursion}
use Rattle.ic_link_ops.specs.Prelude.{Place, IsDisjoint, ChangesOnlyIn, KeepsLinked}
use Rattle.ic_raw.specs.declared.status.TheConstants.{OK}
use Rattle.ic_raw.specs.declared.words.RawFront.{RawFront}
use Rattle.ic_raw.specs.declared.words.RawOne.{RawOne}
use Rattle.ic_raw.specs.Prelude.{IsAccepted, IsStatus, refusal, keys_fault, is_linked_one}
use Rattle.ic_raw.specs.Hash.{HoldsChains, buckets_fault}
use Rattle.ic_raw.specs.Singly.{RepresentsList, table_of, word_of_front}
use Rattle.ic_raw_keyed.specs.Growth.{LeadsToLinked, StaysOrGets, leading_to}

-- `hashes` has the hash of each place. `old` and `new` are the words of the table before and after the call. `chain` and `chain'` are the words of the chain
-- before and after the call, and `buckets` and `buckets'` the words of the buckets to which the members of the chain move. `status` is the status that the call
-- returns
module _ (hashes : List ℕ) (old new : List RawOne) (chain chain' : RawFront) (buckets buckets' : List RawFront) (status : ℕ) where
  -- the call moves each member of the chain to the front of the bucket to which the hash of the member leads. Members that come into one bucket keep their
  -- order
  pub record MoveChainCall : Type 0 where
    pub moved : (s : List Place) (chains : ℕ → List Place) → length old ≤ length hashes → 1 ≤ length buckets → RepresentsList old chain s
        → HoldsChains old buckets chains → ((i : ℕ) → i < length buckets → IsDisjoint (chains i) s)
        → IsAccepted status (HoldsChains new buckets' (λ i. leading_to hashes (length buckets) i s ++ chains i))
    pub looked : status ≡ OK → (length old ≤ length hashes) × (1 ≤ length buckets)
    pub ended : status ≡ OK → (s : List Place) × RepresentsList old chain s × AllByRecursion (LeadsToLinked (table_of old) hashes buckets) s
    pub emptied : status ≡ OK → chain' ≡ word_of_front None
    pub touched : (s : List Place) → RepresentsList old chain s → ChangesOnlyIn (table_of old) (table_of new) s
    pub links : KeepsLinked is_linked_one (table_of old) (table_of new)
    pub own : (s : List Place) → RepresentsList old chain s → (i : ℕ) → StaysOrGets hashes buckets buckets' s i
    pub count : length buckets' ≡ length buckets
    pub refused : status ≢ OK → (new ≡ old) × (chain' ≡ chain) × (buckets' ≡ buckets)
    pub why : status ≢ OK → status ≡ refusal (keys_fault hashes (length old) ∷ buckets_fault buckets ∷ [])
    pub is_status : IsStatus status
