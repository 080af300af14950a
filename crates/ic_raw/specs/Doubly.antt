-- This file says when words that a caller lends represent a doubly linked list.
use Rattle.std.specs.Prelude.{◌≡◌, ℕ, List, [], ◌∷◌, ◌++◌, Option, Some, None}
use Rattle.ic_link_ops.specs.Prelude.{Place, word_of, Cut, Table, Ends, Inserts, Splits, neighbors_at, nameable}
use Rattle.ic_link_ops.specs.LinkedList as doubly
use Rattle.ic_raw.specs.declared.words.RawEnds.{RawEnds}
use Rattle.ic_raw.specs.declared.gap.Gap.{Gap}
use Rattle.ic_raw.specs.declared.gap.GapSide.{GapSide}
use Rattle.ic_raw.specs.declared.gap.GapSide.TheVariants.{After, Before}
use Rattle.ic_raw.specs.Answers.{IsAccepted}
use Rattle.ic_raw.specs.Gaps.{IsNoneOrLinked}
use Rattle.ic_raw.specs.LinkWords.{LinkWords, neighbors, table_of}
use Rattle.ic_raw.specs.Words.{place_in}
use Rattle.ic_raw.specs.Calls as calls
use Rattle.ic_raw.specs.Fills as fills

-- `ends_of l` is the first and the last place of a list, which its two words name
abbrev pub ends_of : RawEnds → Ends
ends_of l = record { head = place_in l.head; tail = place_in l.tail }

-- `words_of list` is the two words of a list with these ends, as a call writes them. The word of an end that is none is 0
abbrev pub words_of : Ends → RawEnds
words_of list = record { head = word_of list.head; tail = word_of list.tail }

-- the words of a list have exactly the bits that a call writes
abbrev pub IsWritten : RawEnds → Type 0
IsWritten list = list ≡ words_of (ends_of list)

-- `end_on` is the end of a list that a side means if the caller names no member: the first member for `After`, and the last member for `Before`
abbrev pub end_on : GapSide → Ends → Option Place
end_on After list = list.head
end_on Before list = list.tail

-- a member between `front` and `back` is at the end that the side means: for `After` no member is before it, and for `Before` none is after it
abbrev pub IsEnd : GapSide → (front back : List Place) → Type 0
IsEnd After front back = front ≡ []
IsEnd Before front back = back ≡ []

-- `words` says how the words of a place are read. They have 8 bytes each, or 4 bytes each
module _ {W : Type 0} (words : LinkWords W) where
  -- THE TABLE REPRESENTS A SEQUENCE of places as the doubly linked list with these ends
  abbrev pub Represents : Table W → Ends → List Place → Type 0
  Represents = doubly.Represents (neighbors words)

  -- `next_from` is the place after a given place, and `prev_from` is the place before it. If no place is given, they are the first and the last place
  -- of the list
  abbrev pub next_from : Table W → Ends → Option Place → Option Place
  next_from t list None = list.head
  next_from t list (Some p) = (neighbors_at (neighbors words) t p).next

  abbrev pub prev_from : Table W → Ends → Option Place → Option Place
  prev_from t list None = list.tail
  prev_from t list (Some p) = (neighbors_at (neighbors words) t p).prev

  -- `gap_from` is the gap between the place `at` and its neighbor on this side. The word of `at` names the neighbor
  abbrev pub gap_from : GapSide → Table W → Ends → Option Place → Gap
  gap_from After t list at = record { before = at; after = next_from t list at }
  gap_from Before t list at = record { before = prev_from t list at; after = at }

  -- `around` is the two neighbors of the member `at`, as its words name them. If `at` is none, they are the last and the first member of the list
  abbrev pub around : Table W → Ends → Option Place → Gap
  around t list at = record { before = prev_from t list at; after = next_from t list at }

  -- THE LINKS CONFIRM A GAP beside the place `at`: the neighbor of `at` on this side is none or a linked place, and the links lead from this neighbor
  -- back to `at`
  abbrev pub TellsGap : GapSide → Table W → Ends → Option Place → Type 0
  TellsGap After t list at = IsNoneOrLinked words.is_linked t (next_from t list at) × (prev_from t list (next_from t list at) ≡ at)
  TellsGap Before t list at = IsNoneOrLinked words.is_linked t (prev_from t list at) × (next_from t list (prev_from t list at) ≡ at)

  -- the call cuts the list at a gap. The part after the gap is `handed` for `After`, and `kept` for `Before`. The part before the gap is the other
  -- one of the two
  abbrev pub SplitsBeside : GapSide → (old new : Table W) → (kept handed : Ends) → Cut → Type 0
  SplitsBeside After old new kept handed cut = Splits Represents old new kept handed cut.front cut.back
  SplitsBeside Before old new kept handed cut = Splits Represents old new kept handed cut.back cut.front

  -- the table of the words `es` represents s as the list that has the words `list`. The table has only the places that words of this width can name
  abbrev pub RepresentsList : List W → RawEnds → List Place → Type 0
  RepresentsList es list s = Represents (table_of words es) (ends_of list) s

  -- `at` is none, or it is a linked place of the table of these words
  abbrev pub IsNoneOrLinkedIn : List W → Option Place → Type 0
  IsNoneOrLinkedIn es = IsNoneOrLinked words.is_linked (table_of words es)

  module _ (old new : List W) (list list' : RawEnds) (status : ℕ) where
    abbrev pub Inserted : Cut → Place → Type 0
    Inserted = calls.Inserted Represents words.is_linked words.unlinked ends_of (nameable words.width old) (nameable words.width new) list list' status

    abbrev pub Removed : Place → (front back : List Place) → Type 0
    Removed = calls.Removed Represents words.is_linked words.unlinked ends_of (nameable words.width old) (nameable words.width new) list list' status

    abbrev pub Popped : ℕ → Place → (front back : List Place) → Type 0
    Popped = calls.Popped Represents words.is_linked words.unlinked ends_of (nameable words.width old) (nameable words.width new) list list' status

    abbrev pub Replaced : Place → (front back : List Place) → Place → Type 0
    Replaced = calls.Replaced Represents words.is_linked words.unlinked ends_of (nameable words.width old) (nameable words.width new) list list' status

    -- the call takes the member p out of the list, and inserts p at the position `cut` of the remaining members
    abbrev pub Moved : Place → (front back : List Place) → Cut → Type 0
    Moved p front back cut =
        RepresentsList old list (front ++ p ∷ back) → IsAccepted status (Inserts Represents (table_of words old) (table_of words new) (ends_of list') cut p)

    -- if p is a member of the list, the call is accepted and changes nothing, so that p stays where it is
    abbrev pub Stayed : Place → (front back : List Place) → Type 0
    Stayed p front back = RepresentsList old list (front ++ p ∷ back) → IsAccepted status ((new ≡ old) × (list' ≡ list))

    abbrev pub Spliced : RawEnds → Cut → List Place → Type 0
    Spliced = calls.Spliced Represents words.is_linked words.unlinked ends_of (nameable words.width old) (nameable words.width new) list list' status

    -- the call cuts the list. For the side `After` the list `rest` gets the members after the cut, and for `Before` the members before the cut
    abbrev pub Split : GapSide → RawEnds → Cut → Type 0
    Split After rest cut =
        calls.Split Represents words.is_linked words.unlinked ends_of (nameable words.width old) (nameable words.width new) list list' status rest cut cut.front cut.back
    Split Before rest cut =
        calls.Split Represents words.is_linked words.unlinked ends_of (nameable words.width old) (nameable words.width new) list list' status rest cut cut.back cut.front

    abbrev pub Cleared : List Place → Type 0
    Cleared = calls.Cleared Represents words.is_linked words.unlinked ends_of (nameable words.width old) (nameable words.width new) list list' status

    abbrev pub Filled : Cut → (first count : ℕ) → Type 0
    Filled = fills.Filled Represents words.is_linked words.unlinked ends_of (nameable words.width old) (nameable words.width new) list list' status

  -- each of the `count` places from the number `first` on belongs to the table of these words and is not linked
  abbrev pub IsFreeRunIn : List W → (first count : ℕ) → Type 0
  IsFreeRunIn es = fills.IsFreeRun words.is_linked (table_of words es)
