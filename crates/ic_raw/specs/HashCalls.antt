-- Each record of this file is the whole contract of one call of hash tables.
use Rattle.std.specs.Prelude.{◌≡◌, ◌≢◌, ◌≤◌, ◌↔◌, ◌⊎◌, ◌++◌, ◌∷◌, ℕ, List, [], Option, Some, None, length}
use Rattle.ic_link_ops.specs.Prelude.{Place, at_front, IsMember, acquires, successor_at}
use Rattle.ic_hash_table.specs.Searches.{Finds}
use Rattle.ic_link_ops.specs.NumberedCollections.{with_at}
use Rattle.ic_raw.specs.declared.status.TheConstants.{OK, NULL}
use Rattle.ic_raw.specs.declared.words.RawFront.{RawFront}
use Rattle.ic_raw.specs.declared.words.RawOne.{RawOne}
use Rattle.ic_raw.specs.Answers.{IsStatus, HandsOut, refusal}
use Rattle.ic_raw.specs.Gaps.{NamesFree}
use Rattle.ic_raw.specs.Hash.{slot_of, chain_of, buckets_fault, ChangesOnlyChain, HoldsChains, has_key, NamesKey}
use Rattle.ic_raw.specs.Keys.{key_of, keys_fault}
use Rattle.ic_raw.specs.Singly.{RepresentsList, FreeIn, IsNoneOrLinkedIn, IsWritten, LosesFront, table_of, front_of, word_of_front, list_of, fault_at, fault_of, successor}
use Rattle.ic_raw.specs.Singly.{Inserted, Removed, LeavesChain, Touched}
use Rattle.ic_raw.specs.Words.{is_linked_one}

-- `old` and `new` are the words of the table before the call and after it. `buckets` and `buckets'` are the words of the buckets before the call and
-- after it. `status` is the status that the call returns
module _ (old new : List RawOne) (buckets buckets' : List RawFront) (status hash : ℕ) where
  -- A PLACE IS INSERTED AT THE FRONT OF THE CHAIN to which `hash` leads
  pub record InsertCall (place : Option Place) : Type 0 where
    pub inserted : (s : List Place) (p : Place) → 1 ≤ length buckets → place ≡ Some p
        → Inserted old new (chain_of buckets hash) (chain_of buckets' hash) status (at_front s) p
    pub others : ChangesOnlyChain buckets buckets' hash
    pub holds : (chains : ℕ → List Place) (p : Place) → 1 ≤ length buckets → place ≡ Some p → FreeIn old p → HoldsChains old buckets chains
        → HoldsChains new buckets' (with_at chains (slot_of buckets hash) (p ∷ chains (slot_of buckets hash)))
    pub accepted : (status ≡ OK) ↔ (1 ≤ length buckets) × NamesFree is_linked_one (table_of old) place × IsNoneOrLinkedIn old (front_of (chain_of buckets hash))
    pub own : status ≡ OK → front_of (chain_of buckets' hash) ≡ place
    pub touched : (p : Place) → place ≡ Some p → status ≡ OK → Touched old new (acquires p ∷ []) (Some p ∷ [])
    pub words : status ≡ OK → IsWritten (chain_of buckets' hash)
    pub refused : status ≢ OK → (new ≡ old) × (buckets' ≡ buckets)
    pub why : status ≢ OK → status ≡ refusal (buckets_fault buckets ∷ fault_of old place ∷ [])
    pub is_status : IsStatus status

  -- A PLACE IS REMOVED FROM THE CHAIN to which `hash` leads
  pub record RemoveCall (place : Option Place) : Type 0 where
    pub removed : (front back : List Place) (p : Place) → 1 ≤ length buckets → place ≡ Some p
        → Removed old new (chain_of buckets hash) (chain_of buckets' hash) status p front back
    pub member : (s : List Place) (p : Place) → place ≡ Some p → RepresentsList old (chain_of buckets hash) s → status ≡ OK → IsMember p s
    pub others : ChangesOnlyChain buckets buckets' hash
    pub holds : (chains : ℕ → List Place) (front back : List Place) (p : Place) → 1 ≤ length buckets → place ≡ Some p
        → chains (slot_of buckets hash) ≡ front ++ p ∷ back → HoldsChains old buckets chains
        → HoldsChains new buckets' (with_at chains (slot_of buckets hash) (front ++ back))
    pub null : (status ≡ NULL) ↔ (place ≡ None)
    pub any : status ≡ OK → 1 ≤ length buckets
    pub stands : status ≡ OK → IsNoneOrLinkedIn old place
    pub own : status ≡ OK → LosesFront (table_of old) place (list_of (chain_of buckets hash)) (list_of (chain_of buckets' hash))
    pub touched : (p : Place) → place ≡ Some p → status ≡ OK → LeavesChain old new (chain_of buckets hash) p
    pub words : status ≡ OK → IsWritten (chain_of buckets' hash)
    pub refused : status ≢ OK → (new ≡ old) × (buckets' ≡ buckets)
    pub why : status ≢ OK → status ≢ NULL → status ≡ refusal (buckets_fault buckets ∷ fault_at old place ∷ [])
    pub is_status : IsStatus status

-- `keys` has one key for each place. The caller's variable contains `was` before the call and `number` after it. If the call is accepted, `number` is
-- the number of the found member
module _ (keys : List ℕ) (old new : List RawOne) (status was number : ℕ) where
  -- THE FIRST MEMBER WITH A KEY IS FOUND in the chain to which `hash` leads
  pub record FindCall (buckets : List RawFront) (hash key : ℕ) : Type 0 where
    pub found : (s : List Place) → length old ≤ length keys → 1 ≤ length buckets → RepresentsList old (chain_of buckets hash) s
        → HandsOut (Finds (has_key keys key) s) status number
    pub linked : status ≡ OK → NamesKey old (front_of (chain_of buckets hash)) keys key number
    pub ended : status ≡ NULL → (s : List Place) × RepresentsList old (chain_of buckets hash) s
    pub refused : status ≢ OK → number ≡ was
    pub same : new ≡ old
    pub looked : (status ≡ OK) ⊎ (status ≡ NULL) → (length old ≤ length keys) × (1 ≤ length buckets)
    pub why : status ≢ OK → status ≢ NULL → status ≡ refusal (keys_fault keys (length old) ∷ buckets_fault buckets ∷ [])
    pub is_status : IsStatus status

  -- THE NEXT MEMBER WITH THE KEY OF `at` IS FOUND among the members after `at`
  pub record NextEqualCall (at : Option Place) : Type 0 where
    pub found : (list : RawFront) (front back : List Place) (p : Place) → at ≡ Some p → length old ≤ length keys → RepresentsList old list (front ++ p ∷ back)
        → HandsOut (Finds (has_key keys (key_of keys p)) back) status number
    pub linked : (p : Place) → at ≡ Some p → status ≡ OK → NamesKey old (successor_at successor (table_of old) p).next keys (key_of keys p) number
    pub ended : (p : Place) → at ≡ Some p → status ≡ NULL → (back : List Place) × RepresentsList old (word_of_front (Some p)) (p ∷ back)
    pub none : at ≡ None → status ≡ NULL
    pub refused : status ≢ OK → number ≡ was
    pub same : new ≡ old
    pub enough : status ≡ OK → length old ≤ length keys
    pub stands : status ≡ OK → IsNoneOrLinkedIn old at
    pub why : status ≢ OK → status ≢ NULL → status ≡ refusal (keys_fault keys (length old) ∷ fault_at old at ∷ [])
    pub is_status : IsStatus status
