-- The contracts of the calls of trees with sums. Each record is the whole contract of a call. The first fields of a record say what the call does if the table
-- represents a tree and the sums of this tree are right. The other fields hold whatever the words contain.
use Rattle.std.specs.Prelude.{◌≡◌, ◌≢◌, ◌↔◌, ◌⊎◌, ◌≤◌, ◌∷◌, ◌++◌, ℕ, List, [], Option, Some, None, length, map, filter}
use Rattle.std.specs.Ordering.{nat_cmp}
use Rattle.ic_link_ops.specs.Prelude.{Place, Cut, join, first, IsAfter}
use Rattle.ic_rbtree.specs.Borders.{IsSorted}
use Rattle.ic_raw.specs.declared.status.TheConstants.{OK, NULL}
use Rattle.ic_raw.specs.declared.words.RawRoot.{RawRoot}
use Rattle.ic_raw.specs.declared.words.RawThree.{RawThree}
use Rattle.ic_raw.specs.Answers.{IsAccepted, IsStatus, HandsOut, IsFound, refusal}
use Rattle.ic_raw.specs.Prelude.{key_of, keys_fault, HandsOutReached}
use Rattle.ic_raw.specs.Tree.{Represents, RepresentsTree, IsNoneOrLinkedIn, fault_at, root_in, table_of}
use Rattle.ic_raw_augmented.specs.declared.sums.Kind.{Kind}
use Rattle.ic_raw_augmented.specs.declared.sums.Kind.TheVariants.{Greatest}
use Rattle.ic_raw_augmented.specs.declared.sums.RawSum.{RawSum}
use Rattle.ic_raw_augmented.specs.Ends.{EndsAbove, FindEnds, OverlapEnds}
use Rattle.ic_raw_augmented.specs.Find.{IsFirstBeyond, overlaps}
use Rattle.ic_raw_augmented.specs.Sums.{IsSummed, IsSummedBut, KeepsValues, StaysBeside, is_there, sums_fault, total, value_at}

-- `old` and `new` are the words of the table before and after the call. `status` is the status that the call returns
module _ (kind : Kind) (sums : List RawSum) (old new : List RawThree) (status : ℕ) where
  -- the call searches the members after `at`, or all members if `at` is none, for the first one at which the combined values exceed `bound`. The number of the
  -- found member replaces `was`
  pub record FindCall (tree : RawRoot) (at : Option Place) (bound was number : ℕ) : Type 0 where
    pub found : (cut : Cut) → length old ≤ length sums → IsAfter cut at → RepresentsTree old tree (join cut) → IsSummed kind (table_of old) sums (join cut)
        → HandsOut (IsFirstBeyond kind (value_at sums) [] bound cut.back) status number
    pub reached : status ≡ OK → HandsOutReached (table_of old) (root_in tree) (at ∷ []) number
    pub ended : status ≡ NULL → FindEnds (table_of old) sums (root_in tree) at bound
    pub refused : status ≢ OK → number ≡ was
    pub same : new ≡ old
    pub looked : (status ≡ OK) ⊎ (status ≡ NULL) → (length old ≤ length sums) × IsNoneOrLinkedIn old at × IsNoneOrLinkedIn old (root_in tree)
    pub why : status ≢ OK → status ≢ NULL → status ≡ refusal (fault_at old at ∷ sums_fault sums (length old) ∷ [])
    pub is_status : IsStatus status

  -- the call combines the values of all members before the member `at`, and the result replaces `was`
  pub record BeforeCall (at : Option Place) (was sum : ℕ) : Type 0 where
    pub links_back : (root : Option Place) (front back : List Place) (p : Place) → at ≡ Some p → length old ≤ length sums → Represents (table_of old) root (front ++ p ∷ back)
        → IsSummed kind (table_of old) sums (front ++ p ∷ back) → IsAccepted status (sum ≡ total kind (value_at sums) front)
    pub ended : status ≡ OK → EndsAbove (table_of old) at
    pub null : (status ≡ NULL) ↔ (at ≡ None)
    pub refused : status ≢ OK → sum ≡ was
    pub same : new ≡ old
    pub looked : status ≡ OK → (length old ≤ length sums) × IsNoneOrLinkedIn old at
    pub why : status ≢ OK → status ≢ NULL → status ≡ refusal (fault_at old at ∷ sums_fault sums (length old) ∷ [])
    pub is_status : IsStatus status

-- the call searches the members after `at`, or all members if `at` is none, for the first interval that overlaps [from, to). The number of the found member
-- replaces `was`. The interval of a place begins at the number that `starts` has for the place, and ends at the value of the place
module _ (starts : List ℕ) (sums : List RawSum) (old new : List RawThree) (status : ℕ) where
  pub record OverlapCall (tree : RawRoot) (at : Option Place) (from to was number : ℕ) : Type 0 where
    pub found : (cut : Cut) → length old ≤ length starts → length old ≤ length sums → IsAfter cut at → RepresentsTree old tree (join cut)
        → IsSummed Greatest (table_of old) sums (join cut) → IsSorted nat_cmp (map (key_of starts) cut.back)
        → IsFound (first (filter (overlaps (key_of starts) (value_at sums) from to) cut.back)) status number
    pub reached : status ≡ OK → HandsOutReached (table_of old) (root_in tree) (at ∷ []) number
    pub ended : status ≡ NULL → OverlapEnds (table_of old) sums (root_in tree) at starts from to
    pub refused : status ≢ OK → number ≡ was
    pub same : new ≡ old
    pub looked : (status ≡ OK) ⊎ (status ≡ NULL) → (length old ≤ length starts) × (length old ≤ length sums) × IsNoneOrLinkedIn old at × IsNoneOrLinkedIn old (root_in tree)
    pub why : status ≢ OK → status ≢ NULL → status ≡ refusal (fault_at old at ∷ keys_fault starts (length old) ∷ sums_fault sums (length old) ∷ [])
    pub is_status : IsStatus status

-- `sums` and `sums'` are the sums before and after the call
module _ (kind : Kind) (sums sums' : List RawSum) (old new : List RawThree) (status : ℕ) where
  -- the call computes the sums of the member `at` and of all members above `at`, or of the whole table if `at` is none. The sums of a tree are right after the
  -- call if they were right before the call at all members of the tree except `at`. If `at` is none, the sums before the call do not matter
  pub record RenewCall (at : Option Place) : Type 0 where
    pub recomputed : (root : Option Place) (s : List Place) → length old ≤ length sums → IsNoneOrLinkedIn old at → Represents (table_of old) root s
        → IsSummedBut kind (table_of old) sums s (is_there at) → IsAccepted status (IsSummed kind (table_of old) sums' s)
    pub opened : length old ≤ length sums → IsNoneOrLinkedIn old at → status ≡ OK
    pub values : KeepsValues sums sums'
    pub beside : (p : Place) → at ≡ Some p → StaysBeside (table_of old) sums sums' p
    pub refused : status ≢ OK → sums' ≡ sums
    pub same : new ≡ old
    pub looked : status ≡ OK → (length old ≤ length sums) × IsNoneOrLinkedIn old at
    pub why : status ≢ OK → status ≡ refusal (fault_at old at ∷ sums_fault sums (length old) ∷ [])
    pub is_status : IsStatus status
