-- Each record of this file is the whole contract of one call that inserts or finds members of a red-black tree by keys. The keys are in an array with
-- one key for each place.
use Rattle.std.specs.Prelude.{◌≡◌, ◌≢◌, ◌≤◌, ◌⊎◌, ◌∷◌, ℕ, List, [], Option, Some, None, length}
use Rattle.ic_link_ops.specs.Prelude.{Place, LinksAlso}
use Rattle.ic_raw.specs.declared.search.Target.{Target}
use Rattle.ic_raw.specs.declared.status.TheConstants.{OK, NULL}
use Rattle.ic_raw.specs.declared.words.RawRoot.{RawRoot}
use Rattle.ic_raw.specs.declared.words.RawThree.{RawThree}
use Rattle.ic_raw.specs.Answers.{IsStatus, HandsOut, refusal}
use Rattle.ic_raw.specs.Keys.{against, keys_fault, IsTarget, InsertedInOrder, NamesTarget, SearchEnds}
use Rattle.ic_raw.specs.Seen.{StaysWithin, HandsOutReached}
use Rattle.ic_raw.specs.Words.{is_linked_three}
use Rattle.ic_raw.specs.Tree.{RepresentsTree, FreeIn, IsNoneOrLinkedIn, IsWritten, root_in, fault_of, table_of}

-- `keys` has one key for each place. `old` and `new` are the words of the table before the call and after it. `status` is the status that the call
-- returns
module _ (keys : List ℕ) (old new : List RawThree) (status : ℕ) where
  -- A PLACE IS INSERTED BY ITS KEY, after all members whose key is not greater. `tree` and `tree'` are the word of the tree before the call and after
  -- it
  pub record PutCall (tree tree' : RawRoot) (place : Option Place) : Type 0 where
    pub inserted : (s : List Place) (p : Place) → place ≡ Some p → length old ≤ length keys → InsertedInOrder keys old new tree tree' status s p
    pub free : (p : Place) → place ≡ Some p → status ≡ OK → FreeIn old p
    pub no_place : place ≡ None → status ≢ OK
    pub enough : status ≡ OK → length old ≤ length keys
    pub root : status ≡ OK → IsNoneOrLinkedIn old (root_in tree)
    pub linked : (p : Place) → place ≡ Some p → status ≡ OK → LinksAlso is_linked_three (table_of old) (table_of new) p
    pub in_closed_set : status ≡ OK → StaysWithin (table_of old) (table_of new) (root_in tree) (root_in tree') place None []
    pub words : status ≡ OK → IsWritten tree'
    pub refused : status ≢ OK → (new ≡ old) × (tree' ≡ tree)
    pub why : status ≢ OK → status ≡ refusal (keys_fault keys (length old) ∷ fault_of old place ∷ [])
    pub is_status : IsStatus status

  -- THE MEMBER THAT `target` MEANS FOR THE KEY `key` IS FOUND, for example the first member with this key. The caller's variable contains `was`
  -- before the call and `number` after it. If the call is accepted, `number` is the number of the found member
  pub record FindCall (tree : RawRoot) (key : ℕ) (target : Target) (was number : ℕ) : Type 0 where
    pub found : (s : List Place) → length old ≤ length keys → RepresentsTree old tree s → HandsOut (IsTarget target (against key keys) s) status number
    pub reached : status ≡ OK → HandsOutReached (table_of old) (root_in tree) [] number
    pub bounded : status ≡ OK → NamesTarget target keys key (table_of old) number
    pub ended : status ≡ NULL → SearchEnds target keys key (table_of old) (root_in tree)
    pub refused : status ≢ OK → number ≡ was
    pub same : new ≡ old
    pub looked : (status ≡ OK) ⊎ (status ≡ NULL) → (length old ≤ length keys) × IsNoneOrLinkedIn old (root_in tree)
    pub why : status ≢ OK → status ≢ NULL → status ≡ refusal (keys_fault keys (length old) ∷ [])
    pub is_status : IsStatus status
