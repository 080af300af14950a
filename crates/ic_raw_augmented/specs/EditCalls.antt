-- The contracts of the calls that edit a tree and keep its sums right. Each record is the whole contract of a call. The field `call` says that the call edits
-- the words as the call for trees without sums does, if there is a sum for each place. The other fields say what becomes of the sums.
use Rattle.std.specs.Prelude.{◌≡◌, ◌≢◌, ◌⊎◌, ◌≤◌, ◌∷◌, ℕ, List, [], Option, None, length}
use Rattle.ic_link_ops.specs.Prelude.{Place, is_end}
use Rattle.ic_link_ops.specs.declared.side.Side.{Side}
use Rattle.ic_raw.specs.declared.status.TheConstants.{OK, NULL}
use Rattle.ic_raw.specs.declared.words.RawRoot.{RawRoot}
use Rattle.ic_raw.specs.declared.words.RawThree.{RawThree}
use Rattle.ic_raw.specs.Prelude.{refusal, keys_fault}
use Rattle.ic_raw.specs.SearchCalls.{PutCall}
use Rattle.ic_raw.specs.Tree.{Represents, fault_at, fault_of, table_of}
use Rattle.ic_raw.specs.TreeCalls.{InsertCall, RemoveCall}
use Rattle.ic_raw_augmented.specs.declared.sums.Kind.{Kind}
use Rattle.ic_raw_augmented.specs.declared.sums.RawSum.{RawSum}
use Rattle.ic_raw_augmented.specs.Sums.{IsSummed, IsSummedBut, KeepsValues, sums_fault}

-- `sums` and `sums'` are the sums before and after the call. `old` and `new` are the words of the table before and after the call. `status` is the status that
-- the call returns
module _ (kind : Kind) (sums sums' : List RawSum) (old new : List RawThree) (status : ℕ) where
  -- if the call was accepted, the sums are right in each tree that the new words represent, provided that they were right before the call at all members of
  -- this tree except `came`
  abbrev pub KeepsSums : (came : Option Place) → Type 0
  KeepsSums came = status ≡ OK → (root : Option Place) (s : List Place) → Represents (table_of new) root s → IsSummedBut kind (table_of old) sums s (is_end came)
      → IsSummed kind (table_of new) sums' s

-- `tree` and `tree'` are the word of the tree before and after the call
module _ (kind : Kind) (keys : List ℕ) (sums sums' : List RawSum) (old new : List RawThree) (status : ℕ) where
  -- the call inserts `place` after all members whose key is not greater than the key of `place`, and keeps the sums right
  pub record SumsPutCall (tree tree' : RawRoot) (place : Option Place) : Type 0 where
    pub call : length old ≤ length sums → PutCall keys old new status tree tree' place
    pub summed : KeepsSums kind sums sums' old new status place
    pub values : KeepsValues sums sums'
    pub has_sums : status ≡ OK → length old ≤ length sums
    pub refused : status ≢ OK → (new ≡ old) × (tree' ≡ tree) × (sums' ≡ sums)
    pub why : status ≢ OK → status ≡ refusal (sums_fault sums (length old) ∷ keys_fault keys (length old) ∷ fault_of old place ∷ [])

module _ (kind : Kind) (sums sums' : List RawSum) (old new : List RawThree) (tree tree' : RawRoot) (status : ℕ) where
  -- the call inserts `place` as the child of the member `at` on the side `side`, or as the only member if `at` is none, and keeps the sums right
  pub record SumsInsertCall (side : Side) (at place : Option Place) : Type 0 where
    pub call : length old ≤ length sums → InsertCall old new tree tree' status side at place
    pub summed : KeepsSums kind sums sums' old new status place
    pub values : KeepsValues sums sums'
    pub has_sums : status ≡ OK → length old ≤ length sums
    pub refused : status ≢ OK → (new ≡ old) × (tree' ≡ tree) × (sums' ≡ sums)
    pub why : status ≢ OK → status ≡ refusal (sums_fault sums (length old) ∷ fault_at old at ∷ fault_of old place ∷ [])

  -- the call removes the member `at` from a tree, and keeps the sums of the tree right
  pub record SumsRemoveCall (at : Option Place) : Type 0 where
    pub call : length old ≤ length sums → RemoveCall old new tree tree' status at
    pub summed : KeepsSums kind sums sums' old new status None
    pub values : KeepsValues sums sums'
    pub has_sums : (status ≡ OK) ⊎ (status ≡ NULL) → length old ≤ length sums
    pub refused : status ≢ OK → (new ≡ old) × (tree' ≡ tree) × (sums' ≡ sums)
    pub why : status ≢ OK → status ≢ NULL → status ≡ refusal (sums_fault sums (length old) ∷ fault_at old at ∷ [])
