-- The contracts of the calls of trees that keep their ends. Each record is the whole contract of a call. The field `call` of a record is the contract of the
-- call with the same name for a tree without ends. The other fields say what becomes of the two ends. Of these fields, the first hold if the ends were right
-- before the call, and the rest hold whatever the words contain.
use Rattle.std.specs.Prelude.{◌≡◌, ◌≢◌, ◌↔◌, ◌<◌, ◌∷◌, ◌++◌, ℕ, List, Option, Some, None}
use Rattle.ic_link_ops.specs.Prelude.{Place, index_of, Cut, join, insert}
use Rattle.ic_link_ops.specs.declared.side.Side.{Side}
use Rattle.ic_link_ops.specs.declared.side.Side.TheVariants.{Left}
use Rattle.ic_rbtree.specs.Kept.{end_for, end_with}
use Rattle.ic_raw.specs.declared.status.TheConstants.{OK, NULL, BROKEN}
use Rattle.ic_raw.specs.declared.words.RawRoot.{RawRoot}
use Rattle.ic_raw.specs.declared.words.RawThree.{RawThree}
use Rattle.ic_raw.specs.Prelude.{IsAccepted, IsStatus, HasNumber}
use Rattle.ic_raw.specs.SearchCalls as keyed
use Rattle.ic_raw.specs.Tree.{RepresentsTree, FreeIn, IsInsertPos, root_in, table_of}
use Rattle.ic_raw.specs.TreeCalls as trees
use Rattle.ic_raw_keyed.specs.declared.ends.RawTreeEnds.{RawTreeEnds}
use Rattle.ic_raw_keyed.specs.Ends.{SaysEnds, IsWritten, EndWith, LosesEnd, end_in}

-- `old` and `new` are the words of the table before and after the call. `tree` and `tree'` are the words of the tree before and after the call, and `ends` and
-- `ends'` the words of the ends. `status` is the status that the call returns
module _ (old new : List RawThree) (tree tree' : RawRoot) (ends ends' : RawTreeEnds) (status : ℕ) where
  -- the call inserts `place` as the child of the member `at` on the side `side`, or as the only member if `at` is none
  pub record InsertCall (side : Side) (at place : Option Place) : Type 0 where
    pub call : trees.InsertCall old new tree tree' status side at place
    pub ends_kept : (cut : Cut) (p : Place) → IsInsertPos side (table_of old) at cut → place ≡ Some p → RepresentsTree old tree (join cut) → FreeIn old p
        → SaysEnds ends (join cut) → SaysEnds ends' (insert cut p)
    pub own : (p : Place) → place ≡ Some p → status ≡ OK → (d : Side) → end_in d ends' ≡ end_with d at side p (end_in d ends)
    pub words : status ≡ OK → IsWritten ends'
    pub refused : status ≢ OK → ends' ≡ ends

  -- the call removes the member `at` from a tree that keeps its ends
  pub record RemoveCall (at : Option Place) : Type 0 where
    pub call : trees.RemoveCall old new tree tree' status at
    pub ends_kept : (front back : List Place) (p : Place) → at ≡ Some p → RepresentsTree old tree (front ++ p ∷ back) → SaysEnds ends (front ++ p ∷ back)
        → SaysEnds ends' (front ++ back)
    pub own : (p : Place) → at ≡ Some p → status ≡ OK → (d : Side) → LosesEnd (table_of old) (root_in tree) d p (end_in d ends) (end_in d ends')
    pub words : status ≡ OK → IsWritten ends'
    pub refused : status ≢ OK → ends' ≡ ends

  -- the call inserts `place` at the position of the member `at` in the tree, and removes `at`
  pub record ReplaceCall (at place : Option Place) : Type 0 where
    pub call : trees.ReplaceCall old new tree tree' status at place
    pub ends_kept : (front back : List Place) (out p : Place) → at ≡ Some out → place ≡ Some p → RepresentsTree old tree (front ++ out ∷ back) → FreeIn old p
        → SaysEnds ends (front ++ out ∷ back) → SaysEnds ends' (front ++ p ∷ back)
    pub own : (out p : Place) → at ≡ Some out → place ≡ Some p → status ≡ OK → (d : Side) → end_in d ends' ≡ end_for out p (end_in d ends)
    pub words : status ≡ OK → IsWritten ends'
    pub refused : status ≢ OK → ends' ≡ ends

  -- the call removes the first member of the tree, and the number of this member replaces `was`
  pub record PopFirstCall (was popped : ℕ) : Type 0 where
    pub taken : (s : List Place) (p : Place) → index_of p < 4294967295 → RepresentsTree old tree (p ∷ s) → SaysEnds ends (p ∷ s) → IsAccepted status (SaysEnds ends' s)
    pub removed : status ≡ OK → RemoveCall (end_in Left ends)
    pub handed : (p : Place) → end_in Left ends ≡ Some p → status ≡ OK → HasNumber p popped
    pub null : (status ≡ NULL) ↔ (end_in Left ends ≡ None)
    pub refused : status ≢ OK → (new ≡ old) × (tree' ≡ tree) × (ends' ≡ ends) × (popped ≡ was)
    pub why : status ≢ OK → status ≢ NULL → status ≡ BROKEN
    pub is_status : IsStatus status

-- `keys` has the key of each place
module _ (keys : List ℕ) (old new : List RawThree) (tree tree' : RawRoot) (ends ends' : RawTreeEnds) (status : ℕ) where
  -- the call inserts `place` after all members whose key is not greater than the key of `place`
  pub record PutCall (place : Option Place) : Type 0 where
    pub call : keyed.PutCall keys old new status tree tree' place
    pub ends_kept : (cut : Cut) (p : Place) → place ≡ Some p → status ≡ OK → SaysEnds ends (join cut) → RepresentsTree new tree' (insert cut p)
        → SaysEnds ends' (insert cut p)
    pub own : status ≡ OK → (d : Side) → EndWith (table_of new) (root_in tree') d place (end_in d ends) (end_in d ends')
    pub words : status ≡ OK → IsWritten ends'
    pub refused : status ≢ OK → ends' ≡ ends
