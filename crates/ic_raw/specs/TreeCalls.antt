-- Each record of this file is the whole contract of one call of red-black trees. The first fields say what the call does to a tree that the table
-- represents. The other fields hold whatever the words contain. They say what an accepted call has tested before it edits, what a refused call leaves
-- as it was, and why it was refused.
use Rattle.std.specs.Prelude.{◌≡◌, ◌≢◌, ◌↔◌, ◌⊎◌, ◌∷◌, ℕ, List, [], Option, Some, None}
use Rattle.ic_link_ops.specs.Prelude.{Place, Cut, join, LinksAlso, Unlinks, Exchanges, node_at}
use Rattle.ic_link_ops.specs.declared.side.Side.{Side}
use Rattle.ic_link_ops.specs.Frames.{across}
use Rattle.ic_rbtree.specs.Sides.{IsBeside}
use Rattle.ic_raw.specs.declared.status.TheConstants.{OK, NULL, BROKEN}
use Rattle.ic_raw.specs.declared.words.RawRoot.{RawRoot}
use Rattle.ic_raw.specs.declared.words.RawThree.{RawThree}
use Rattle.ic_raw.specs.Answers.{IsStatus, IsFound, refusal}
use Rattle.ic_raw.specs.Tree.{node, RepresentsTree, IsInsertPos, TellsInsertPos, FreeIn, IsNoneOrLinkedIn, IsWritten, root_in, word_of_root, table_of, fault_at, fault_of}
use Rattle.ic_raw.specs.Tree.{Inserted, Removed, Replaced}
use Rattle.ic_raw.specs.Seen.{StaysWithin, HandsOutStep, StepEndsIn}
use Rattle.ic_raw.specs.TreeShape.{Cleared, LeadsToEnd, OnlyUnmarks}
use Rattle.ic_raw.specs.Words.{is_linked_three}

-- `old` and `new` are the words of the table before the call and after it. `tree` and `tree'` are the word of the tree before the call and after it.
-- `status` is the status that the call returns
module _ (old new : List RawThree) (tree tree' : RawRoot) (status : ℕ) where
  -- if the place p names no parent, p is the root of this tree
  abbrev pub IsOwn : Place → Type 0
  IsOwn p = (node_at node (table_of old) p).parent ≡ None → root_in tree ≡ Some p

  -- A PLACE IS INSERTED AS THE CHILD on this side of the member `at`, or as the only member of the tree if `at` is none
  pub record InsertCall (side : Side) (at place : Option Place) : Type 0 where
    pub inserted : (cut : Cut) (p : Place) → IsInsertPos side (table_of old) at cut → place ≡ Some p → Inserted old new tree tree' status cut p
    pub free : (p : Place) → place ≡ Some p → status ≡ OK → FreeIn old p
    pub no_place : place ≡ None → status ≢ OK
    pub stands : status ≡ OK → IsNoneOrLinkedIn old at
    pub root : status ≡ OK → IsNoneOrLinkedIn old (root_in tree)
    pub links_back : status ≡ OK → TellsInsertPos side (table_of old) (root_in tree) at
    pub linked : (p : Place) → place ≡ Some p → status ≡ OK → LinksAlso is_linked_three (table_of old) (table_of new) p
    pub in_closed_set : status ≡ OK → StaysWithin (table_of old) (table_of new) (root_in tree) (root_in tree') place None (at ∷ [])
    pub words : status ≡ OK → IsWritten tree'
    pub refused : status ≢ OK → (new ≡ old) × (tree' ≡ tree)
    pub why : status ≢ OK → status ≡ refusal (fault_at old at ∷ fault_of old place ∷ [])
    pub is_status : IsStatus status

  -- THE MEMBER `at` IS REMOVED from the tree, and it is then unlinked
  pub record RemoveCall (at : Option Place) : Type 0 where
    pub removed : (front back : List Place) (p : Place) → at ≡ Some p → Removed old new tree tree' status p front back
    pub null : (status ≡ NULL) ↔ (at ≡ None)
    pub stands : status ≡ OK → IsNoneOrLinkedIn old at
    pub root : status ≡ OK → IsNoneOrLinkedIn old (root_in tree)
    pub own : (p : Place) → at ≡ Some p → status ≡ OK → IsOwn p
    pub unlinked : (p : Place) → at ≡ Some p → status ≡ OK → Unlinks is_linked_three (table_of old) (table_of new) p
    pub in_closed_set : status ≡ OK → StaysWithin (table_of old) (table_of new) (root_in tree) (root_in tree') None at (at ∷ [])
    pub words : status ≡ OK → IsWritten tree'
    pub refused : status ≢ OK → (new ≡ old) × (tree' ≡ tree)
    pub why : status ≢ OK → status ≢ NULL → status ≡ refusal (fault_at old at ∷ [])
    pub is_status : IsStatus status

  -- A PLACE REPLACES THE MEMBER `at`, which is removed
  pub record ReplaceCall (at place : Option Place) : Type 0 where
    pub replaced : (front back : List Place) (out p : Place) → at ≡ Some out → place ≡ Some p → Replaced old new tree tree' status out front back p
    pub free : (p : Place) → place ≡ Some p → status ≡ OK → FreeIn old p
    pub no_place : place ≡ None → status ≢ OK
    pub null : (status ≡ NULL) ↔ (at ≡ None)
    pub stands : status ≡ OK → IsNoneOrLinkedIn old at
    pub root : status ≡ OK → IsNoneOrLinkedIn old (root_in tree)
    pub own : (p : Place) → at ≡ Some p → status ≡ OK → IsOwn p
    pub exchanged : (out p : Place) → at ≡ Some out → place ≡ Some p → status ≡ OK
        → Exchanges is_linked_three (table_of old) (table_of new) p out
    pub in_closed_set : status ≡ OK → StaysWithin (table_of old) (table_of new) (root_in tree) (root_in tree') place at (at ∷ [])
    pub words : status ≡ OK → IsWritten tree'
    pub refused : status ≢ OK → (new ≡ old) × (tree' ≡ tree)
    pub why : status ≢ OK → status ≢ NULL → status ≡ refusal (fault_at old at ∷ fault_of old place ∷ [])
    pub is_status : IsStatus status

  -- ALL MEMBERS ARE REMOVED, and the tree is then empty
  pub record ClearCall : Type 0 where
    pub cleared : (s : List Place) → Cleared old new tree tree' status s
    pub root : status ≡ OK → IsNoneOrLinkedIn old (root_in tree)
    pub ended : status ≡ OK → LeadsToEnd (table_of old) (root_in tree) None
    pub emptied : status ≡ OK → tree' ≡ word_of_root None
    pub marks : OnlyUnmarks (table_of old) (table_of new)
    pub refused : status ≢ OK → (new ≡ old) × (tree' ≡ tree)
    pub why : status ≢ OK → status ≡ BROKEN
    pub is_status : IsStatus status

-- `old` and `new` are the words of the table before the call and after it, and `tree` is the word of the tree. `status` is the status that the call
-- returns
module _ (old new : List RawThree) (tree : RawRoot) (status : ℕ) where
  -- THE MEMBER BESIDE `at` on this side IS FOUND. If `at` is none, the outermost member on the opposite side is found. The caller's variable contains
  -- `was` before the call and `number` after it. If the call is accepted, `number` is the number of the found member
  pub record StepCall (side : Side) (at : Option Place) (was number : ℕ) : Type 0 where
    pub found : (cut : Cut) (member : Option Place) → IsBeside side cut at → IsBeside (across side) cut member → RepresentsTree old tree (join cut)
        → IsFound member status number
    pub stepped : status ≡ OK → HandsOutStep (table_of old) (root_in tree) side at number
    pub ended : status ≡ NULL → StepEndsIn (table_of old) (root_in tree) side at
    pub refused : status ≢ OK → number ≡ was
    pub same : new ≡ old
    pub looked : (status ≡ OK) ⊎ (status ≡ NULL) → IsNoneOrLinkedIn old at × IsNoneOrLinkedIn old (root_in tree)
    pub stands : status ≡ OK → IsNoneOrLinkedIn old at
    pub why : status ≢ OK → status ≢ NULL → status ≡ refusal (fault_at old at ∷ [])
    pub is_status : IsStatus status
