-- Each record of this file is the whole contract of one call of XOR linked lists. The first fields say what the call does to a list that the table
-- represents. The other fields hold whatever the words contain. They say what an accepted call has tested before it edits, what a refused call leaves
-- as it was, and why it was refused.
use Rattle.std.specs.Prelude.{◌≡◌, ◌≢◌, ◌↔◌, ◌∷◌, ℕ, List, [], Option, Some, None}
use Rattle.ic_link_ops.specs.Prelude.{Place, Cut, at_back, last, IsAfter, IsBefore, acquires, releases, no_members}
use Rattle.ic_raw.specs.declared.gap.Gap.{Gap}
use Rattle.ic_raw.specs.declared.gap.GapSide.{GapSide}
use Rattle.ic_raw.specs.declared.gap.GapSide.TheVariants.{After, Before}
use Rattle.ic_raw.specs.declared.status.TheConstants.{OK, NULL, BROKEN}
use Rattle.ic_raw.specs.declared.words.RawEnds.{RawEnds}
use Rattle.ic_raw.specs.declared.words.RawOne.{RawOne}
use Rattle.ic_raw.specs.Answers.{IsStatus, refusal}
use Rattle.ic_raw.specs.Doubly.{IsEnd, IsWritten, end_on, ends_of, words_of}
use Rattle.ic_raw.specs.Fills.{last_of_run, run_faults}
use Rattle.ic_raw.specs.Gaps.{IsCutAt, PutIn, TakenOut, Turns, gap_between}
use Rattle.ic_raw.specs.Singly.{IsFreeRunIn, TouchedRun, table_of}
use Rattle.ic_raw.specs.Touches.{Touches, sides}
use Rattle.ic_raw.specs.Words.{HasNumber, is_linked_one, place_of}
use Rattle.ic_raw.specs.Xor.{FreeIn, IsNoneOrLinkedIn, beyond, TellsGap, TellsMemberAfter, TellsMemberBefore, TellsEnds, LeadsThrough, fault_at, fault_of}
use Rattle.ic_raw.specs.Xor.{Inserted, Removed, Popped, Replaced, Spliced, Split, Cleared, Filled, OnlyUnlinks}

-- `old` and `new` are the words of the table before the call and after it. `list` and `list'` are the words of the list before the call and after it.
-- `status` is the status that the call returns
module _ (old new : List RawOne) (list list' : RawEnds) (status : ℕ) where
  -- A PLACE IS INSERTED BETWEEN the neighbors `before` and `after`. At the front of the list `before` is none, and at the back `after` is none
  pub record InsertCall (before after place : Option Place) : Type 0 where
    pub inserted : (cut : Cut) (p : Place) → IsAfter cut before → IsBefore cut after → place ≡ Some p → Inserted old new list list' status cut p
    pub free : (p : Place) → place ≡ Some p → status ≡ OK → FreeIn old p
    pub no_place : place ≡ None → status ≢ OK
    pub stands_before : status ≡ OK → IsNoneOrLinkedIn old before
    pub stands_after : status ≡ OK → IsNoneOrLinkedIn old after
    pub links_back : status ≡ OK → TellsGap (table_of old) (ends_of list) before after
    pub touched : (p : Place) → place ≡ Some p → status ≡ OK → Touches is_linked_one (table_of old) (table_of new) (acquires p ∷ []) (Some p ∷ before ∷ after ∷ [])
    pub own : status ≡ OK → PutIn (gap_between before after) place (ends_of list) (ends_of list')
    pub words : status ≡ OK → IsWritten list'
    pub refused : status ≢ OK → (new ≡ old) × (list' ≡ list)
    pub why : status ≢ OK → status ≡ refusal (fault_at old before ∷ fault_at old after ∷ fault_of old place ∷ [])
    pub is_status : IsStatus status

  -- A PLACE IS INSERTED AT AN END of the list. One of `before` and `after` is none, and the other one is the end that the words of the list name
  pub record PushCall (before after place : Option Place) : Type 0 where
    pub inserted : (cut : Cut) (p : Place) → IsAfter cut before → IsBefore cut after → place ≡ Some p → Inserted old new list list' status cut p
    pub free : (p : Place) → place ≡ Some p → status ≡ OK → FreeIn old p
    pub no_place : place ≡ None → status ≢ OK
    pub links_back : status ≡ OK → TellsGap (table_of old) (ends_of list) before after
    pub touched : (p : Place) → place ≡ Some p → status ≡ OK → Touches is_linked_one (table_of old) (table_of new) (acquires p ∷ []) (Some p ∷ before ∷ after ∷ [])
    pub own : status ≡ OK → PutIn (gap_between before after) place (ends_of list) (ends_of list')
    pub words : status ≡ OK → IsWritten list'
    pub refused : status ≢ OK → (new ≡ old) × (list' ≡ list)
    pub why : status ≢ OK → status ≡ refusal (fault_of old place ∷ [])
    pub is_status : IsStatus status

  -- the links confirm the member at an end of the list: the first member for the side `After`, and the last member for the side `Before`
  abbrev pub TellsEndOn : GapSide → Type 0
  TellsEndOn After = TellsMemberAfter (table_of old) (ends_of list) None (ends_of list).head
  TellsEndOn Before = TellsMemberBefore (table_of old) (ends_of list) None (ends_of list).tail

  -- `around_end` is the two neighbors of the member at an end of the list: one neighbor is none, and the word of the member names the other one
  abbrev pub around_end : GapSide → Gap
  around_end After = gap_between None (beyond (table_of old) (ends_of list).head None)
  around_end Before = gap_between (beyond (table_of old) (ends_of list).tail None) None

  -- THE FIRST MEMBER IS REMOVED, or the last member for the side `Before`. The caller's variable contains `was` before the call and `popped` after
  -- it. If the call is accepted, `popped` is the number of the removed member
  pub record PopCall (side : GapSide) (was popped : ℕ) : Type 0 where
    pub taken : (front back : List Place) (p : Place) → IsEnd side front back → Popped old new list list' status popped p front back
    pub handed : (p : Place) → end_on side (ends_of list) ≡ Some p → status ≡ OK → HasNumber p popped
    pub null : (status ≡ NULL) ↔ (end_on side (ends_of list) ≡ None)
    pub stands : status ≡ OK → IsNoneOrLinkedIn old (end_on side (ends_of list))
    pub links_back : status ≡ OK → TellsEndOn side
    pub touched : (p : Place) → end_on side (ends_of list) ≡ Some p → status ≡ OK
        → Touches is_linked_one (table_of old) (table_of new) (releases p ∷ []) (Some p ∷ sides (around_end side))
    pub own : status ≡ OK → TakenOut (around_end side) (ends_of list) (ends_of list')
    pub words : IsWritten list → IsWritten list'
    pub refused : status ≢ OK → (new ≡ old) × (list' ≡ list) × (popped ≡ was)
    pub why : status ≢ OK → status ≢ NULL → status ≡ BROKEN
    pub is_status : IsStatus status

  -- THE MEMBER `at` IS REMOVED, and `before` is the member before `at`
  pub record RemoveCall (before at : Option Place) : Type 0 where
    pub removed : (front back : List Place) (p : Place) → before ≡ last front → at ≡ Some p → Removed old new list list' status p front back
    pub null : (status ≡ NULL) ↔ (at ≡ None)
    pub stands : status ≡ OK → IsNoneOrLinkedIn old at
    pub stands_before : status ≡ OK → IsNoneOrLinkedIn old before
    pub links_back : status ≡ OK → TellsMemberAfter (table_of old) (ends_of list) before at
    pub touched : (p : Place) → at ≡ Some p → status ≡ OK
        → Touches is_linked_one (table_of old) (table_of new) (releases p ∷ []) (Some p ∷ before ∷ beyond (table_of old) at before ∷ [])
    pub own : status ≡ OK → TakenOut (gap_between before (beyond (table_of old) at before)) (ends_of list) (ends_of list')
    pub words : status ≡ OK → IsWritten list'
    pub refused : status ≢ OK → (new ≡ old) × (list' ≡ list)
    pub why : status ≢ OK → status ≢ NULL → status ≡ refusal (fault_at old at ∷ fault_at old before ∷ [])
    pub is_status : IsStatus status

  -- A PLACE REPLACES THE MEMBER `at`, which is removed. `before` is the member before `at`
  pub record ReplaceCall (before at place : Option Place) : Type 0 where
    pub replaced : (front back : List Place) (out p : Place) → before ≡ last front → at ≡ Some out → place ≡ Some p
        → Replaced old new list list' status out front back p
    pub free : (p : Place) → place ≡ Some p → status ≡ OK → FreeIn old p
    pub no_place : place ≡ None → status ≢ OK
    pub null : (status ≡ NULL) ↔ (at ≡ None)
    pub stands : status ≡ OK → IsNoneOrLinkedIn old at
    pub stands_before : status ≡ OK → IsNoneOrLinkedIn old before
    pub links_back : status ≡ OK → TellsMemberAfter (table_of old) (ends_of list) before at
    pub touched : (out p : Place) → at ≡ Some out → place ≡ Some p → status ≡ OK
        → Touches is_linked_one (table_of old) (table_of new) (acquires p ∷ releases out ∷ [])
        (Some p ∷ Some out ∷ before ∷ beyond (table_of old) at before ∷ [])
    pub own : status ≡ OK → PutIn (gap_between before (beyond (table_of old) at before)) place (ends_of list) (ends_of list')
    pub words : status ≡ OK → IsWritten list'
    pub refused : status ≢ OK → (new ≡ old) × (list' ≡ list)
    pub why : status ≢ OK → status ≢ NULL → status ≡ refusal (fault_at old at ∷ fault_at old before ∷ fault_of old place ∷ [])
    pub is_status : IsStatus status

  -- ALL MEMBERS OF A SECOND LIST MOVE BETWEEN the neighbors `before` and `after`. At the front of the list `before` is none, and at the back `after`
  -- is none. `given` and `given'` are the words of the second list before the call and after it
  pub record SpliceCall (before after : Option Place) (given given' : RawEnds) : Type 0 where
    pub spliced : (cut : Cut) (t : List Place) → IsAfter cut before → IsBefore cut after → Spliced old new list list' status given cut t
    pub emptied : status ≡ OK → given' ≡ words_of no_members
    pub stands_before : status ≡ OK → IsNoneOrLinkedIn old before
    pub stands_after : status ≡ OK → IsNoneOrLinkedIn old after
    pub links_back : status ≡ OK → TellsGap (table_of old) (ends_of list) before after
    pub ends : status ≡ OK → TellsEnds (table_of old) (ends_of given)
    pub apart : status ≡ OK → (p : Place) → (ends_of given).head ≡ Some p → (ends_of list).head ≢ Some p
    pub touched : status ≡ OK → Touches is_linked_one (table_of old) (table_of new) [] (before ∷ after ∷ (ends_of given).head ∷ (ends_of given).tail ∷ [])
    pub own : (first : Place) → (ends_of given).head ≡ Some first → status ≡ OK
        → Turns (gap_between before after) (Some first) (ends_of given).tail (ends_of list) (ends_of list')
    pub nothing : (ends_of given).head ≡ None → status ≡ OK → (new ≡ old) × (ends_of list' ≡ ends_of list)
    pub words : status ≡ OK → IsWritten list'
    pub refused : status ≢ OK → (new ≡ old) × (list' ≡ list) × (given' ≡ given)
    pub why : status ≢ OK → status ≡ refusal (fault_at old before ∷ fault_at old after ∷ [])
    pub is_status : IsStatus status

  -- ALL MEMBERS OF A SECOND LIST MOVE TO THE BACK of the list. `given` and `given'` are the words of the second list before the call and after it
  pub record AppendCall (given given' : RawEnds) : Type 0 where
    pub spliced : (s t : List Place) → Spliced old new list list' status given (at_back s) t
    pub emptied : status ≡ OK → given' ≡ words_of no_members
    pub stands : status ≡ OK → IsNoneOrLinkedIn old (ends_of list).tail
    pub links_back : status ≡ OK → TellsGap (table_of old) (ends_of list) (ends_of list).tail None
    pub ends : status ≡ OK → TellsEnds (table_of old) (ends_of given)
    pub apart : status ≡ OK → (p : Place) → (ends_of given).head ≡ Some p → (ends_of list).head ≢ Some p
    pub touched : status ≡ OK → Touches is_linked_one (table_of old) (table_of new) [] ((ends_of list).tail ∷ (ends_of given).head ∷ (ends_of given).tail ∷ [])
    pub own : (first : Place) → (ends_of given).head ≡ Some first → status ≡ OK
        → Turns (gap_between (ends_of list).tail None) (Some first) (ends_of given).tail (ends_of list) (ends_of list')
    pub nothing : (ends_of given).head ≡ None → status ≡ OK → (new ≡ old) × (ends_of list' ≡ ends_of list)
    pub words : status ≡ OK → IsWritten list'
    pub refused : status ≢ OK → (new ≡ old) × (list' ≡ list) × (given' ≡ given)
    pub why : status ≢ OK → status ≡ BROKEN
    pub is_status : IsStatus status

  -- THE LIST IS CUT BETWEEN the neighbors `before` and `after`. At the front of the list `before` is none, and at the back `after` is none. The
  -- members after the cut become the list `rest`, which has to be empty before the call. `rest` and `rest'` are the words of this list before the
  -- call and after it
  pub record SplitCall (before after : Option Place) (rest rest' : RawEnds) : Type 0 where
    pub split : (cut : Cut) → IsAfter cut before → IsBefore cut after → ends_of rest ≡ no_members → Split old new list list' status rest' cut
    pub empty : status ≡ OK → ends_of rest ≡ no_members
    pub stands_before : status ≡ OK → IsNoneOrLinkedIn old before
    pub stands_after : status ≡ OK → IsNoneOrLinkedIn old after
    pub links_back : status ≡ OK → TellsGap (table_of old) (ends_of list) before after
    pub touched : status ≡ OK → Touches is_linked_one (table_of old) (table_of new) [] (before ∷ after ∷ [])
    pub own : status ≡ OK → IsCutAt (gap_between before after) (ends_of list) (ends_of list') (ends_of rest')
    pub words : status ≡ OK → IsWritten list'
    pub rest_words : status ≡ OK → IsWritten rest'
    pub refused : status ≢ OK → (new ≡ old) × (list' ≡ list) × (rest' ≡ rest)
    pub why : status ≢ OK → status ≡ refusal (fault_at old before ∷ fault_at old after ∷ [])
    pub is_status : IsStatus status

  -- A RUN OF `count` PLACES IS INSERTED AFTER ALL MEMBERS, from the place with the number `first` on
  pub record FillCall (first count : ℕ) : Type 0 where
    pub filled : (s : List Place) → Filled old new list list' status (at_back s) first count
    pub free : status ≡ OK → IsFreeRunIn old first count
    pub nothing : count ≡ 0 → (status ≡ OK) × (new ≡ old) × (list' ≡ list)
    pub links_back : status ≡ OK → count ≢ 0 → TellsGap (table_of old) (ends_of list) (ends_of list).tail None
    pub own : status ≡ OK → count ≢ 0 → Turns (gap_between (ends_of list).tail None) (place_of first) (last_of_run first count) (ends_of list) (ends_of list')
    pub touched : status ≡ OK → (free : IsFreeRunIn old first count) → TouchedRun old new free.run (ends_of list).tail
    pub words : status ≡ OK → count ≢ 0 → IsWritten list'
    pub refused : status ≢ OK → (new ≡ old) × (list' ≡ list)
    pub why : status ≢ OK → status ≡ refusal (run_faults (fault_of old) first count)
    pub is_status : IsStatus status

  -- ALL MEMBERS ARE REMOVED, and the list is then empty
  pub record ClearCall : Type 0 where
    pub cleared : (s : List Place) → Cleared old new list list' status s
    pub ended : status ≡ OK → (s : List Place) × LeadsThrough (table_of old) (ends_of list) s
    pub emptied : status ≡ OK → list' ≡ words_of no_members
    pub marks : OnlyUnlinks (table_of old) (table_of new)
    pub refused : status ≢ OK → (new ≡ old) × (list' ≡ list)
    pub why : status ≢ OK → status ≡ BROKEN
    pub is_status : IsStatus status
