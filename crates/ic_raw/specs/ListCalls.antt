-- Each record of this file is the whole contract of one call of doubly linked lists. The first fields say what the call does to a list that the table
-- represents. The other fields hold whatever the words contain. They say what an accepted call has tested before it edits, which entries it changes,
-- and which ends the list then has. They also say what a refused call leaves as it was, and why it was refused.
use Rattle.std.specs.Prelude.{◌≡◌, ◌≢◌, ◌↔◌, ◌++◌, ◌∷◌, ℕ, List, [], Option, Some, None}
use Rattle.ic_link_ops.specs.Prelude.{Place, Cut, join, at_back, KeepsLinked, acquires, releases, no_members}
use Rattle.ic_raw.specs.declared.gap.GapSide.{GapSide}
use Rattle.ic_raw.specs.declared.gap.GapSide.TheVariants.{After, Before}
use Rattle.ic_raw.specs.declared.status.TheConstants.{OK, NULL, BROKEN}
use Rattle.ic_raw.specs.declared.words.RawEnds.{RawEnds}
use Rattle.ic_raw.specs.Answers.{IsStatus, refusal}
use Rattle.ic_raw.specs.Doubly.{RepresentsList, IsNoneOrLinkedIn, TellsGap, IsEnd, IsWritten, IsFreeRunIn, around, end_on, gap_from, ends_of, words_of}
use Rattle.ic_raw.specs.Doubly.{Inserted, Removed, Popped, Replaced, Moved, Stayed, Spliced, Split, Cleared, Filled}
use Rattle.ic_raw.specs.Fills.{TouchesRun, last_of_run, run_faults}
use Rattle.ic_raw.specs.Gaps.{AllPutIn, IsApart, IsBeside, IsCutBeside, IsMoved, PutIn, TakenOut, Turns, gap_between, outermost}
use Rattle.ic_raw.specs.LinkWords.{LinkWords, table_of, FreeIn, fault_at, fault_of}
use Rattle.ic_raw.specs.Touches.{Touches, sides}
use Rattle.ic_raw.specs.Words.{place_of, HasNumber}

-- `link` says how the words of a place are read. `old` and `new` are the words of the table before the call and after it. `list` and `list'` are the
-- words of the list before the call and after it. `status` is the status that the call returns
module _ {W : Type 0} (link : LinkWords W) (old new : List W) (list list' : RawEnds) (status : ℕ) where
  -- A PLACE IS INSERTED INTO THE GAP on this side of the member `at`, or at an end of the list if `at` is none
  pub record InsertCall (side : GapSide) (at place : Option Place) : Type 0 where
    pub inserted : (cut : Cut) (p : Place) → IsBeside side cut at → place ≡ Some p → Inserted link old new list list' status cut p
    pub free : (p : Place) → place ≡ Some p → status ≡ OK → FreeIn link old p
    pub no_place : place ≡ None → status ≢ OK
    pub stands : status ≡ OK → IsNoneOrLinkedIn link old at
    pub links_back : status ≡ OK → TellsGap link side (table_of link old) (ends_of list) at
    pub own : status ≡ OK → PutIn (gap_from link side (table_of link old) (ends_of list) at) place (ends_of list) (ends_of list')
    pub touched : (p : Place) → place ≡ Some p → status ≡ OK → Touches link.is_linked (table_of link old) (table_of link new) (acquires p ∷ [])
        (Some p ∷ sides (gap_from link side (table_of link old) (ends_of list) at))
    pub words : IsWritten list → IsWritten list'
    pub refused : status ≢ OK → (new ≡ old) × (list' ≡ list)
    pub why : status ≢ OK → status ≡ refusal (fault_at link old at ∷ fault_of link old place ∷ [])
    pub is_status : IsStatus status

  -- THE FIRST MEMBER IS REMOVED, or the last member for the side `Before`. The caller's variable contains `was` before the call and `popped` after
  -- it. If the call is accepted, `popped` is the number of the removed member
  pub record PopCall (side : GapSide) (was popped : ℕ) : Type 0 where
    pub taken : (front back : List Place) (p : Place) → IsEnd side front back → Popped link old new list list' status popped p front back
    pub handed : (p : Place) → end_on side (ends_of list) ≡ Some p → status ≡ OK → HasNumber p popped
    pub null : (status ≡ NULL) ↔ (end_on side (ends_of list) ≡ None)
    pub stands : status ≡ OK → IsNoneOrLinkedIn link old (end_on side (ends_of list))
    pub outer : status ≡ OK → TellsGap link side (table_of link old) (ends_of list) None
    pub inner : status ≡ OK → TellsGap link side (table_of link old) (ends_of list) (end_on side (ends_of list))
    pub own : status ≡ OK → TakenOut (around link (table_of link old) (ends_of list) (end_on side (ends_of list))) (ends_of list) (ends_of list')
    pub touched : (p : Place) → end_on side (ends_of list) ≡ Some p → status ≡ OK → Touches link.is_linked (table_of link old) (table_of link new) (releases p ∷ [])
        (Some p ∷ sides (around link (table_of link old) (ends_of list) (Some p)))
    pub words : IsWritten list → IsWritten list'
    pub refused : status ≢ OK → (new ≡ old) × (list' ≡ list) × (popped ≡ was)
    pub why : status ≢ OK → status ≢ NULL → status ≡ BROKEN
    pub is_status : IsStatus status

  -- THE MEMBER `at` IS REMOVED from the list, and it is then unlinked
  pub record RemoveCall (at : Option Place) : Type 0 where
    pub removed : (front back : List Place) (p : Place) → at ≡ Some p → Removed link old new list list' status p front back
    pub null : (status ≡ NULL) ↔ (at ≡ None)
    pub stands : status ≡ OK → IsNoneOrLinkedIn link old at
    pub before : status ≡ OK → TellsGap link Before (table_of link old) (ends_of list) at
    pub after : status ≡ OK → TellsGap link After (table_of link old) (ends_of list) at
    pub own : status ≡ OK → TakenOut (around link (table_of link old) (ends_of list) at) (ends_of list) (ends_of list')
    pub touched : (p : Place) → at ≡ Some p → status ≡ OK → Touches link.is_linked (table_of link old) (table_of link new) (releases p ∷ [])
        (Some p ∷ sides (around link (table_of link old) (ends_of list) at))
    pub words : IsWritten list → IsWritten list'
    pub refused : status ≢ OK → (new ≡ old) × (list' ≡ list)
    pub why : status ≢ OK → status ≢ NULL → status ≡ refusal (fault_at link old at ∷ [])
    pub is_status : IsStatus status

  -- A PLACE REPLACES THE MEMBER `at`, which is removed
  pub record ReplaceCall (at place : Option Place) : Type 0 where
    pub replaced : (front back : List Place) (out p : Place) → at ≡ Some out → place ≡ Some p → Replaced link old new list list' status out front back p
    pub free : (p : Place) → place ≡ Some p → status ≡ OK → FreeIn link old p
    pub no_place : place ≡ None → status ≢ OK
    pub null : (status ≡ NULL) ↔ (at ≡ None)
    pub stands : status ≡ OK → IsNoneOrLinkedIn link old at
    pub before : status ≡ OK → TellsGap link Before (table_of link old) (ends_of list) at
    pub after : status ≡ OK → TellsGap link After (table_of link old) (ends_of list) at
    pub own : status ≡ OK → PutIn (around link (table_of link old) (ends_of list) at) place (ends_of list) (ends_of list')
    pub touched : (out p : Place) → at ≡ Some out → place ≡ Some p → status ≡ OK → Touches link.is_linked (table_of link old) (table_of link new) (acquires p ∷ releases out ∷ [])
        (Some p ∷ Some out ∷ sides (around link (table_of link old) (ends_of list) at))
    pub words : status ≡ OK → IsWritten list'
    pub refused : status ≢ OK → (new ≡ old) × (list' ≡ list)
    pub why : status ≢ OK → status ≢ NULL → status ≡ refusal (fault_at link old at ∷ fault_of link old place ∷ [])
    pub is_status : IsStatus status

  -- THE MEMBER `place` MOVES into the gap on this side of the member `at`, or to an end of the list if `at` is none. If `at` is equal to `place`,
  -- nothing changes
  pub record MoveCall (side : GapSide) (at place : Option Place) : Type 0 where
    pub moved : (cut : Cut) (front back : List Place) (p : Place) → IsBeside side cut at → place ≡ Some p → join cut ≡ front ++ back
        → Moved link old new list list' status p front back cut
    pub itself : (front back : List Place) (p : Place) → at ≡ Some p → place ≡ Some p → Stayed link old new list list' status p front back
    pub there : (front back : List Place) (p : Place) → IsBeside side (record { front = front; back = back }) at → place ≡ Some p
        → Stayed link old new list list' status p front back
    pub null : (status ≡ NULL) ↔ (place ≡ None)
    pub stands : status ≡ OK → IsNoneOrLinkedIn link old at
    pub links_back : status ≡ OK → TellsGap link side (table_of link old) (ends_of list) at
    pub member : status ≡ OK → IsNoneOrLinkedIn link old place
    pub before : status ≡ OK → TellsGap link Before (table_of link old) (ends_of list) place
    pub after : status ≡ OK → TellsGap link After (table_of link old) (ends_of list) place
    pub linked : KeepsLinked link.is_linked (table_of link old) (table_of link new)
    pub touched : status ≡ OK → Touches link.is_linked (table_of link old) (table_of link new) []
        (place ∷ sides (around link (table_of link old) (ends_of list) place) ++ sides (gap_from link side (table_of link old) (ends_of list) at))
    pub own : (p : Place) → place ≡ Some p → status ≡ OK → IsApart (gap_from link side (table_of link old) (ends_of list) at) p
        → IsMoved (around link (table_of link old) (ends_of list) place) place (gap_from link side (table_of link old) (ends_of list) at) (ends_of list) (ends_of list')
    pub stays : (p : Place) → place ≡ Some p → status ≡ OK → (IsApart (gap_from link side (table_of link old) (ends_of list) at) p → ⊥) → (new ≡ old) × (list' ≡ list)
    pub words : IsWritten list → IsWritten list'
    pub refused : status ≢ OK → (new ≡ old) × (list' ≡ list)
    pub why : status ≢ OK → status ≢ NULL → status ≡ refusal (fault_at link old at ∷ fault_at link old place ∷ [])
    pub is_status : IsStatus status

  -- A MEMBER MOVES TO THE FRONT of its list, or to the back for the side `Before`
  pub record MoveToEndCall (side : GapSide) (place : Option Place) : Type 0 where
    pub moved : (front back : List Place) (p : Place) → place ≡ Some p → Moved link old new list list' status p front back (outermost side (front ++ back))
    pub there : (front back : List Place) (p : Place) → IsEnd side front back → place ≡ Some p → Stayed link old new list list' status p front back
    pub null : (status ≡ NULL) ↔ (place ≡ None)
    pub links_back : status ≡ OK → TellsGap link side (table_of link old) (ends_of list) None
    pub member : status ≡ OK → IsNoneOrLinkedIn link old place
    pub before : status ≡ OK → TellsGap link Before (table_of link old) (ends_of list) place
    pub after : status ≡ OK → TellsGap link After (table_of link old) (ends_of list) place
    pub linked : KeepsLinked link.is_linked (table_of link old) (table_of link new)
    pub touched : status ≡ OK → Touches link.is_linked (table_of link old) (table_of link new) []
        (place ∷ sides (around link (table_of link old) (ends_of list) place) ++ sides (gap_from link side (table_of link old) (ends_of list) None))
    pub own : (p : Place) → place ≡ Some p → status ≡ OK → end_on side (ends_of list) ≢ Some p
        → IsMoved (around link (table_of link old) (ends_of list) place) place (gap_from link side (table_of link old) (ends_of list) None) (ends_of list) (ends_of list')
    pub stays : (p : Place) → place ≡ Some p → status ≡ OK → end_on side (ends_of list) ≡ Some p → (new ≡ old) × (list' ≡ list)
    pub words : IsWritten list → IsWritten list'
    pub refused : status ≢ OK → (new ≡ old) × (list' ≡ list)
    pub why : status ≢ OK → status ≢ NULL → status ≡ refusal (fault_at link old place ∷ [])
    pub is_status : IsStatus status

  -- ALL MEMBERS OF A SECOND LIST MOVE INTO THE GAP on this side of the member `at`, or to an end of the list if `at` is none. `given` and `given'`
  -- are the words of the second list before the call and after it
  pub record SpliceCall (side : GapSide) (at : Option Place) (given given' : RawEnds) : Type 0 where
    pub spliced : (cut : Cut) (t : List Place) → IsBeside side cut at → Spliced link old new list list' status given cut t
    pub emptied : status ≡ OK → given' ≡ words_of no_members
    pub stands : status ≡ OK → IsNoneOrLinkedIn link old at
    pub links_back : status ≡ OK → TellsGap link side (table_of link old) (ends_of list) at
    pub front : status ≡ OK → TellsGap link After (table_of link old) (ends_of given) None
    pub back : status ≡ OK → TellsGap link Before (table_of link old) (ends_of given) None
    pub apart : status ≡ OK → (p : Place) → (ends_of given).head ≡ Some p → (ends_of list).head ≢ Some p
    pub touched : status ≡ OK → Touches link.is_linked (table_of link old) (table_of link new) []
        (sides (gap_from link side (table_of link old) (ends_of list) at) ++ (ends_of given).head ∷ (ends_of given).tail ∷ [])
    pub own : status ≡ OK → AllPutIn (gap_from link side (table_of link old) (ends_of list) at) (ends_of given) (ends_of list) (ends_of list')
    pub words : status ≡ OK → IsWritten list'
    pub refused : status ≢ OK → (new ≡ old) × (list' ≡ list) × (given' ≡ given)
    pub why : status ≢ OK → status ≡ refusal (fault_at link old at ∷ [])
    pub is_status : IsStatus status

  -- THE LIST IS CUT at the gap on this side of the member `at`, or at an end if `at` is none. The part on this side of the gap becomes the list
  -- `rest`, which has to be empty before the call. `rest` and `rest'` are the words of this list before the call and after it
  pub record SplitCall (side : GapSide) (at : Option Place) (rest rest' : RawEnds) : Type 0 where
    pub split : (cut : Cut) → IsBeside side cut at → ends_of rest ≡ no_members → Split link old new list list' status side rest' cut
    pub empty : status ≡ OK → ends_of rest ≡ no_members
    pub stands : status ≡ OK → IsNoneOrLinkedIn link old at
    pub links_back : status ≡ OK → TellsGap link side (table_of link old) (ends_of list) at
    pub touched : status ≡ OK → Touches link.is_linked (table_of link old) (table_of link new) [] (sides (gap_from link side (table_of link old) (ends_of list) at))
    pub own : status ≡ OK → IsCutBeside side (gap_from link side (table_of link old) (ends_of list) at) (ends_of list) (ends_of list') (ends_of rest')
    pub words : status ≡ OK → IsWritten list'
    pub rest_words : status ≡ OK → IsWritten rest'
    pub refused : status ≢ OK → (new ≡ old) × (list' ≡ list) × (rest' ≡ rest)
    pub why : status ≢ OK → status ≡ refusal (fault_at link old at ∷ [])
    pub is_status : IsStatus status

  -- A RUN OF `count` PLACES IS INSERTED AFTER ALL MEMBERS, from the place with the number `first` on
  pub record FillCall (first count : ℕ) : Type 0 where
    pub filled : (s : List Place) → Filled link old new list list' status (at_back s) first count
    pub free : status ≡ OK → IsFreeRunIn link old first count
    pub nothing : count ≡ 0 → (status ≡ OK) × (new ≡ old) × (list' ≡ list)
    pub links_back : status ≡ OK → count ≢ 0 → TellsGap link Before (table_of link old) (ends_of list) None
    pub own : status ≡ OK → count ≢ 0 → Turns (gap_between (ends_of list).tail None) (place_of first) (last_of_run first count) (ends_of list) (ends_of list')
    pub touched : status ≡ OK → (free : IsFreeRunIn link old first count) → TouchesRun link.is_linked (table_of link old) (table_of link new) free.run (ends_of list).tail
    pub words : status ≡ OK → count ≢ 0 → IsWritten list'
    pub refused : status ≢ OK → (new ≡ old) × (list' ≡ list)
    pub why : status ≢ OK → status ≡ refusal (run_faults (fault_of link old) first count)
    pub is_status : IsStatus status

  -- ALL MEMBERS ARE REMOVED, and the list is then empty
  pub record ClearCall : Type 0 where
    pub cleared : (s : List Place) → Cleared link old new list list' status s
    pub ended : status ≡ OK → (s : List Place) × RepresentsList link old list s
    pub emptied : status ≡ OK → list' ≡ words_of no_members
    pub refused : status ≢ OK → (new ≡ old) × (list' ≡ list)
    pub why : status ≢ OK → status ≡ BROKEN
    pub is_status : IsStatus status
