-- The contract of the call that moves a member of one doubly linked list into another list. The record `TransferCall` is the whole contract of the call.
use Rattle.std.specs.Prelude.{◌≡◌, ◌≢◌, ◌↔◌, ◌++◌, ◌∷◌, ℕ, List, [], Option, Some, None}
use Rattle.ic_link_ops.specs.Prelude.{Place, Cut, join, insert, IsDisjoint, Table, ChangesOnlyIn, KeepsLinked, Ends}
use Rattle.ic_raw.specs.declared.gap.GapSide.{GapSide}
use Rattle.ic_raw.specs.declared.gap.GapSide.TheVariants.{After, Before}
use Rattle.ic_raw.specs.declared.status.TheConstants.{OK, NULL}
use Rattle.ic_raw.specs.declared.words.RawEnds.{RawEnds}
use Rattle.ic_raw.specs.Prelude.{IsAccepted, IsStatus, refusal, IsApart, IsBeside, PutIn, TakenOut, Touches, sides}
use Rattle.ic_raw.specs.Doubly.{Represents, RepresentsList, IsNoneOrLinkedIn, TellsGap, IsWritten, around, gap_from, ends_of}
use Rattle.ic_raw.specs.LinkWords.{LinkWords, table_of, fault_at}

-- In the table `new`, `list` has p at the position where `cut` divides it, and `given` has the members that were before and after p. Only entries of members of
-- the two lists have changed
pub record Transfers {W : Type 0} (link : LinkWords W) (old new : Table W) (list given : Ends) (cut : Cut) (front : List Place) (p : Place) (back : List Place) : Type 0 where
  pub shows : Represents link new list (insert cut p)
  pub keeps : Represents link new given (front ++ back)
  pub frame : ChangesOnlyIn old new (insert cut p ++ (front ++ back))

-- `link` says how the words of a place are read. `old` and `new` are the words of the table before and after the call. `list` and `list'`, and `given` and
-- `given'`, are the words of the two lists before and after the call. `status` is the status that the call returns
module _ {W : Type 0} (link : LinkWords W) (old new : List W) (list list' : RawEnds) (status : ℕ) where
  -- p moves from the list `given` to the position at which `cut` divides the list `list`, if the two lists share no member
  abbrev pub Transferred : (given given' : RawEnds) → Cut → (front : List Place) → Place → (back : List Place) → Type 0
  Transferred given given' cut front p back =
      RepresentsList link old list (join cut) → RepresentsList link old given (front ++ p ∷ back) → IsDisjoint (front ++ p ∷ back) (join cut)
      → IsAccepted status (Transfers link (table_of link old) (table_of link new) (ends_of list') (ends_of given') cut front p back)

  -- the member `place` of the list `given` moves into the gap of `list` on the side `side` of the member `at`. If `at` is none, `place` moves to the front of
  -- `list` for the side `After`, and to the back for `Before`
  pub record TransferCall (side : GapSide) (at : Option Place) (given given' : RawEnds) (place : Option Place) : Type 0 where
    pub moved : (cut : Cut) (front back : List Place) (p : Place) → IsBeside side cut at → place ≡ Some p → Transferred given given' cut front p back
    pub null : (status ≡ NULL) ↔ (place ≡ None)
    pub stands : status ≡ OK → IsNoneOrLinkedIn link old at
    pub links_back : status ≡ OK → TellsGap link side (table_of link old) (ends_of list) at
    pub member : status ≡ OK → IsNoneOrLinkedIn link old place
    pub before : status ≡ OK → TellsGap link Before (table_of link old) (ends_of given) place
    pub after : status ≡ OK → TellsGap link After (table_of link old) (ends_of given) place
    pub apart : status ≡ OK → (p : Place) → (ends_of given).head ≡ Some p → (ends_of list).head ≢ Some p
    pub away : (p : Place) → place ≡ Some p → status ≡ OK → IsApart (gap_from link side (table_of link old) (ends_of list) at) p
    pub linked : KeepsLinked link.is_linked (table_of link old) (table_of link new)
    pub touched : status ≡ OK → Touches link.is_linked (table_of link old) (table_of link new) []
        (place ∷ sides (around link (table_of link old) (ends_of given) place) ++ sides (gap_from link side (table_of link old) (ends_of list) at))
    pub own : status ≡ OK → PutIn (gap_from link side (table_of link old) (ends_of list) at) place (ends_of list) (ends_of list')
    pub given_own : status ≡ OK → TakenOut (around link (table_of link old) (ends_of given) place) (ends_of given) (ends_of given')
    pub words : status ≡ OK → IsWritten list'
    pub given_words : status ≡ OK → IsWritten given'
    pub refused : status ≢ OK → (new ≡ old) × (list' ≡ list) × (given' ≡ given)
    pub why : status ≢ OK → status ≢ NULL → status ≡ refusal (fault_at link old at ∷ fault_at link old place ∷ [])
    pub is_status : IsStatus status
