-- Each record of this file is the whole contract of one call of singly linked lists. The first fields say what the call does to a list that the table
-- represents. The other fields hold whatever the words contain. They say what an accepted call has tested before it edits, what a refused call leaves
-- as it was, and why it was refused.
use Rattle.std.specs.Prelude.{◌≡◌, ◌≢◌, ◌↔◌, ◌∷◌, ℕ, List, [], Option, Some, None}
use Rattle.ic_link_ops.specs.Prelude.{Place, Cut, at_front, last, IsAfter, acquires, releases, end_of}
use Rattle.ic_raw.specs.declared.status.TheConstants.{OK, NULL, BROKEN}
use Rattle.ic_raw.specs.declared.words.RawFront.{RawFront}
use Rattle.ic_raw.specs.declared.words.RawOne.{RawOne}
use Rattle.ic_raw.specs.Answers.{IsStatus, refusal}
use Rattle.ic_raw.specs.Fills.{run_faults}
use Rattle.ic_raw.specs.Gaps.{BeginApart, NamesFree}
use Rattle.ic_raw.specs.Singly.{RepresentsList, RepresentsSome, IsNoneOrLinkedIn, TellsGap, TellsMember, IsWritten, IsFreeRunIn, table_of, front_of, word_of_front, list_of, next_from, fault_at, fault_of}
use Rattle.ic_raw.specs.Singly.{Inserted, Popped, Exchanged, Spliced, Split, Cleared, Filled, Touched, TouchedRun}
use Rattle.ic_raw.specs.Words.{HasNumber, is_linked_one, place_of}

-- `old` and `new` are the words of the table before the call and after it. `list` and `list'` are the word of the list before the call and after it.
-- `status` is the status that the call returns
module _ (old new : List RawOne) (list list' : RawFront) (status : ℕ) where
  -- `after` is the place after a given place of the list, or the first member if no place is given
  abbrev pub after : Option Place → Option Place
  after at = next_from (table_of old) (list_of list) at

  -- A PLACE IS INSERTED AFTER THE MEMBER `at`, or before all members if `at` is none
  pub record InsertCall (at place : Option Place) : Type 0 where
    pub inserted : (cut : Cut) (p : Place) → IsAfter cut at → place ≡ Some p → Inserted old new list list' status cut p
    pub accepted : (status ≡ OK) ↔ NamesFree is_linked_one (table_of old) place × TellsGap (table_of old) (list_of list) at
    pub own : status ≡ OK → front_of list' ≡ end_of at place (front_of list)
    pub touched : (p : Place) → place ≡ Some p → status ≡ OK → Touched old new (acquires p ∷ []) (Some p ∷ at ∷ [])
    pub words : status ≡ OK → IsWritten list'
    pub refused : status ≢ OK → (new ≡ old) × (list' ≡ list)
    pub why : status ≢ OK → status ≡ refusal (fault_at old at ∷ fault_of old place ∷ [])
    pub is_status : IsStatus status

  -- THE FIRST MEMBER IS REMOVED. The caller's variable contains `was` before the call and `popped` after it. If the call is accepted, `popped` is the
  -- number of the removed member
  pub record PopCall (was popped : ℕ) : Type 0 where
    pub taken : (s : List Place) (p : Place) → Popped old new list list' status popped p [] s
    pub handed : (p : Place) → front_of list ≡ Some p → status ≡ OK → HasNumber p popped
    pub null : (status ≡ NULL) ↔ (front_of list ≡ None)
    pub accepted : (status ≡ OK) ↔ TellsMember (table_of old) (list_of list) None
    pub own : status ≡ OK → front_of list' ≡ after (front_of list)
    pub touched : (p : Place) → front_of list ≡ Some p → status ≡ OK → Touched old new (releases p ∷ []) (Some p ∷ [])
    pub words : status ≡ OK → IsWritten list'
    pub refused : status ≢ OK → (new ≡ old) × (list' ≡ list) × (popped ≡ was)
    pub why : status ≢ OK → status ≢ NULL → status ≡ BROKEN
    pub is_status : IsStatus status

  -- THE MEMBER AFTER `at` IS REMOVED, or the first member if `at` is none. The caller's variable contains `was` before the call and `removed` after
  -- it. If the call is accepted, `removed` is the number of the removed member
  pub record RemoveCall (at : Option Place) (was removed : ℕ) : Type 0 where
    pub taken : (front back : List Place) (p : Place) → at ≡ last front → Popped old new list list' status removed p front back
    pub handed : (p : Place) → after at ≡ Some p → status ≡ OK → HasNumber p removed
    pub nothing : (s : List Place) → RepresentsList old list s → at ≡ last s → status ≡ NULL
    pub null : (status ≡ NULL) ↔ (fault_at old at ≡ OK) × (after at ≡ None)
    pub accepted : (status ≡ OK) ↔ TellsMember (table_of old) (list_of list) at
    pub own : status ≡ OK → front_of list' ≡ end_of at (after (after at)) (front_of list)
    pub touched : (p : Place) → after at ≡ Some p → status ≡ OK → Touched old new (releases p ∷ []) (Some p ∷ at ∷ [])
    pub words : status ≡ OK → IsWritten list'
    pub refused : status ≢ OK → (new ≡ old) × (list' ≡ list) × (removed ≡ was)
    pub why : status ≢ OK → status ≢ NULL → status ≡ refusal (fault_at old at ∷ [])
    pub is_status : IsStatus status

  -- A PLACE REPLACES THE MEMBER AFTER `at`, or the first member if `at` is none. The replaced member is removed. The caller's variable contains `was`
  -- before the call and `out` after it. If the call is accepted, `out` is the number of the replaced member
  pub record ReplaceCall (at place : Option Place) (was out : ℕ) : Type 0 where
    pub replaced : (front back : List Place) (q p : Place) → at ≡ last front → place ≡ Some p → Exchanged old new list list' status out q front back p
    pub handed : (q : Place) → after at ≡ Some q → status ≡ OK → HasNumber q out
    pub nothing : (s : List Place) → RepresentsList old list s → at ≡ last s → status ≡ NULL
    pub null : (status ≡ NULL) ↔ (fault_at old at ≡ OK) × (after at ≡ None)
    pub accepted : (status ≡ OK) ↔ NamesFree is_linked_one (table_of old) place × TellsMember (table_of old) (list_of list) at
    pub own : status ≡ OK → front_of list' ≡ end_of at place (front_of list)
    pub touched : (q p : Place) → after at ≡ Some q → place ≡ Some p → status ≡ OK
        → Touched old new (acquires p ∷ releases q ∷ []) (Some p ∷ Some q ∷ at ∷ [])
    pub words : status ≡ OK → IsWritten list'
    pub refused : status ≢ OK → (new ≡ old) × (list' ≡ list) × (out ≡ was)
    pub why : status ≢ OK → status ≢ NULL → status ≡ refusal (fault_at old at ∷ fault_of old place ∷ [])
    pub is_status : IsStatus status

  -- ALL MEMBERS OF A SECOND LIST MOVE AFTER THE MEMBER `at`, or to the front if `at` is none. `given` and `given'` are the word of the second list
  -- before the call and after it
  pub record SpliceCall (at : Option Place) (given given' : RawFront) : Type 0 where
    pub spliced : (cut : Cut) (t : List Place) → IsAfter cut at → Spliced old new list list' status given cut t
    pub emptied : status ≡ OK → given' ≡ word_of_front None
    pub accepted : (status ≡ OK) ↔ TellsGap (table_of old) (list_of list) at × BeginApart (front_of list) (front_of given)
        × RepresentsSome (table_of old) (list_of given)
    pub own : status ≡ OK → front_of given ≢ None → front_of list' ≡ end_of at (front_of given) (front_of list)
    pub nothing : status ≡ OK → front_of given ≡ None → (new ≡ old) × (front_of list' ≡ front_of list)
    pub touched : (t : List Place) → RepresentsList old given t → status ≡ OK → Touched old new [] (at ∷ last t ∷ [])
    pub words : status ≡ OK → IsWritten list'
    pub refused : status ≢ OK → (new ≡ old) × (list' ≡ list) × (given' ≡ given)
    pub why : status ≢ OK → status ≡ refusal (fault_at old at ∷ [])
    pub is_status : IsStatus status

  -- THE LIST IS CUT AFTER THE MEMBER `at`, or before all members if `at` is none. The members after the cut become the list `rest`, which has to be
  -- empty before the call. `rest` and `rest'` are the word of this list before the call and after it
  pub record SplitCall (at : Option Place) (rest rest' : RawFront) : Type 0 where
    pub split : (cut : Cut) → IsAfter cut at → front_of rest ≡ None → Split old new list list' status rest' cut
    pub accepted : (status ≡ OK) ↔ (front_of rest ≡ None) × TellsGap (table_of old) (list_of list) at
    pub own : status ≡ OK → (front_of list' ≡ end_of at None (front_of list)) × (front_of rest' ≡ after at)
    pub touched : status ≡ OK → Touched old new [] (at ∷ [])
    pub words : status ≡ OK → IsWritten list'
    pub rest_words : status ≡ OK → IsWritten rest'
    pub refused : status ≢ OK → (new ≡ old) × (list' ≡ list) × (rest' ≡ rest)
    pub why : status ≢ OK → status ≡ refusal (fault_at old at ∷ [])
    pub is_status : IsStatus status

  -- A RUN OF `count` PLACES IS INSERTED BEFORE ALL MEMBERS, from the place with the number `first` on
  pub record FillCall (first count : ℕ) : Type 0 where
    pub filled : (s : List Place) → Filled old new list list' status (at_front s) first count
    pub nothing : count ≡ 0 → (status ≡ OK) × (new ≡ old) × (list' ≡ list)
    pub accepted : count ≢ 0 → (status ≡ OK) ↔ IsFreeRunIn old first count × IsNoneOrLinkedIn old (front_of list)
    pub own : status ≡ OK → count ≢ 0 → front_of list' ≡ place_of first
    pub touched : status ≡ OK → (free : IsFreeRunIn old first count) → TouchedRun old new free.run None
    pub words : status ≡ OK → count ≢ 0 → IsWritten list'
    pub refused : status ≢ OK → (new ≡ old) × (list' ≡ list)
    pub why : status ≢ OK → status ≡ refusal (run_faults (fault_of old) first count)
    pub is_status : IsStatus status

  -- ALL MEMBERS ARE REMOVED, and the list is then empty
  pub record ClearCall : Type 0 where
    pub cleared : (s : List Place) → Cleared old new list list' status s
    pub ended : status ≡ OK → (s : List Place) × RepresentsList old list s
    pub emptied : status ≡ OK → list' ≡ word_of_front None
    pub refused : status ≢ OK → (new ≡ old) × (list' ≡ list)
    pub why : status ≢ OK → status ≡ BROKEN
    pub is_status : IsStatus status
