-- The contracts of the calls that make one red-black tree from two trees, and two trees from one. Each record is the whole contract of one call. A call is
-- accepted exactly if the table represents the trees of the call, and the place that the caller names has no fault. So a call never edits links that represent
-- no tree.
use Rattle.std.specs.Prelude.{◌≡◌, ◌≢◌, ◌↔◌, ◌++◌, ◌∷◌, ℕ, List, [], Option, Some, None}
use Rattle.ic_link_ops.specs.Prelude.{Place, Cut, KeepsLinked, LinksAlso, HasMember, Inserts, Splits}
use Rattle.ic_rbtree.specs.Join.{Appends, RepresentsParts}
use Rattle.ic_raw.specs.declared.status.TheConstants.{OK, NULL, BROKEN}
use Rattle.ic_raw.specs.declared.words.RawRoot.{RawRoot}
use Rattle.ic_raw.specs.declared.words.RawThree.{RawThree}
use Rattle.ic_raw.specs.Prelude.{IsStatus, IsAccepted, refusal, is_linked_three}
use Rattle.ic_raw.specs.Tree.{Represents, RepresentsTree, FreeIn, IsWritten, root_in, word_of_root, table_of, fault_at, fault_of}

-- the words represent two trees that share no member: the tree `tree` has the members before the cut, and the tree `given` has the members after the cut
abbrev pub RepresentsBoth : List RawThree → (tree given : RawRoot) → Cut → Type 0
RepresentsBoth words tree given = RepresentsParts Represents (table_of words) (root_in tree) (root_in given)

-- `old` and `new` are the words of the table before and after the call. `tree` and `tree'` are the word of the tree before and after the call. `status` is the
-- status that the call returns
module _ (old new : List RawThree) (tree tree' : RawRoot) (status : ℕ) where
  -- the call moves all members of the tree `given` after all members of the tree `tree`. `given` and `given'` are the word of the tree `given` before and after
  -- the call
  pub record AppendCall (given given' : RawRoot) : Type 0 where
    pub appended : (gap : Cut) → RepresentsBoth old tree given gap → IsAccepted status (Appends Represents (table_of old) (table_of new) (root_in tree') gap)
    pub shown : status ≡ OK → (gap : Cut) × RepresentsBoth old tree given gap
    pub emptied : status ≡ OK → given' ≡ word_of_root None
    pub linked : KeepsLinked is_linked_three (table_of old) (table_of new)
    pub words : status ≡ OK → IsWritten tree'
    pub refused : status ≢ OK → (new ≡ old) × (tree' ≡ tree) × (given' ≡ given)
    pub why : status ≢ OK → status ≡ BROKEN
    pub is_status : IsStatus status

  -- the call inserts `place` after all members of the tree `tree`, and moves all members of the tree `given` after `place`
  pub record JoinCall (place : Option Place) (given given' : RawRoot) : Type 0 where
    pub joined : (gap : Cut) (p : Place) → place ≡ Some p → RepresentsBoth old tree given gap → FreeIn old p
        → IsAccepted status (Inserts Represents (table_of old) (table_of new) (root_in tree') gap p)
    pub shown : status ≡ OK → (gap : Cut) × RepresentsBoth old tree given gap
    pub free : (p : Place) → place ≡ Some p → status ≡ OK → FreeIn old p
    pub no_place : place ≡ None → status ≢ OK
    pub emptied : status ≡ OK → given' ≡ word_of_root None
    pub linked : (p : Place) → place ≡ Some p → status ≡ OK → LinksAlso is_linked_three (table_of old) (table_of new) p
    pub words : status ≡ OK → IsWritten tree'
    pub refused : status ≢ OK → (new ≡ old) × (tree' ≡ tree) × (given' ≡ given)
    pub why : status ≢ OK → status ≡ refusal (fault_of old place ∷ [])
    pub is_status : IsStatus status

  -- the call cuts the tree `tree` before the member `at`. `tree` keeps the members before `at`. The member `at` and all members after `at` become the tree
  -- `rest`, which must be empty before the call. `rest` and `rest'` are the word of this tree before and after the call
  pub record SplitCall (at : Option Place) (rest rest' : RawRoot) : Type 0 where
    pub split : (front back : List Place) (p : Place) → at ≡ Some p → RepresentsTree old tree (front ++ p ∷ back) → root_in rest ≡ None
        → IsAccepted status (Splits Represents (table_of old) (table_of new) (root_in tree') (root_in rest') front (p ∷ back))
    pub member : (p : Place) → at ≡ Some p → status ≡ OK → HasMember (RepresentsTree old tree) p
    pub null : (status ≡ NULL) ↔ (at ≡ None)
    pub empty : status ≡ OK → root_in rest ≡ None
    pub linked : KeepsLinked is_linked_three (table_of old) (table_of new)
    pub words : status ≡ OK → IsWritten tree'
    pub rest_words : status ≡ OK → IsWritten rest'
    pub refused : status ≢ OK → (new ≡ old) × (tree' ≡ tree) × (rest' ≡ rest)
    pub why : status ≢ OK → status ≢ NULL → status ≡ refusal (fault_at old at ∷ [])
    pub is_status : IsStatus status
