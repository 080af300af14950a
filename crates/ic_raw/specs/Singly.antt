-- This file says when words that a caller lends represent a singly linked list.
use Rattle.std.specs.Prelude.{◌≡◌, ◌≢◌, ◌∷◌, ℕ, List, [], Option, Some, None}
use Rattle.ic_link_ops.specs.Prelude.{Place, word_of, Cut, first_or, Table, LinkStep, releases, Front, IsFollowed, list_from, Successor, successor_at}
use Rattle.ic_link_ops.specs.SinglyLinkedList as singly
use Rattle.ic_link_ops.specs.Chains.{IsChain}
use Rattle.ic_link_ops.specs.PlainTables as plain
use Rattle.ic_raw.specs.declared.words.RawOne.{RawOne}
use Rattle.ic_raw.specs.declared.words.RawFront.{RawFront}
use Rattle.ic_raw.specs.declared.table.RawTable.{RawTable}
use Rattle.ic_raw.specs.Words.{place_in, no_word, is_linked_one, next_of_one}
use Rattle.ic_raw.specs.Tables.{raw_table, successor_of}
use Rattle.ic_raw.specs.Calls as calls
use Rattle.ic_raw.specs.Fills as fills
use Rattle.ic_raw.specs.Gaps.{IsNoneOrLinked}
use Rattle.ic_raw.specs.Touches.{Touches}

-- `table_of` is the table that has these words, and `lent_table` is the table of the words that a caller lends
abbrev pub table_of : List RawOne → Table RawOne
table_of = plain.table_of no_word

abbrev pub lent_table : RawTable RawOne → Table RawOne
lent_table = raw_table no_word

-- `successor` is the place after a place, which the word of its entry names
abbrev pub successor : RawOne → Successor
successor = successor_of next_of_one is_linked_one

-- THE TABLE REPRESENTS A SEQUENCE of places as the singly linked list with this first place
abbrev pub Represents : Table RawOne → Front → List Place → Type 0
Represents = singly.Represents successor

-- THE TABLE REPRESENTS SOME SEQUENCE for the list: the links lead from the first place of the list to an end
abbrev pub RepresentsSome : Table RawOne → Front → Type 0
RepresentsSome = singly.RepresentsSome successor

-- `front_of` is the first place of a list, which the list's word names
abbrev pub front_of : RawFront → Option Place
front_of l = place_in l.head

-- `word_of_front` is the word of a list with this first place, as a call writes it. The word is 0 if the list has no first place
abbrev pub word_of_front : Option Place → RawFront
word_of_front first = record { head = word_of first }

-- the word of a list has exactly the bits that a call writes
abbrev pub IsWritten : RawFront → Type 0
IsWritten l = l ≡ word_of_front (front_of l)

-- `list_of` is the list whose first place is the place that the word names
abbrev pub list_of : RawFront → Front
list_of l = list_from (front_of l)

-- `next_from` is the place after a given place, or the first place of the list if no place is given
abbrev pub next_from : Table RawOne → Front → Option Place → Option Place
next_from t list None = list.head
next_from t list (Some p) = (successor_at successor t p).next

-- THE LINKS CONFIRM A GAP after the place `at`, or before all members if `at` is none: the place on each side of the gap is none or linked
abbrev pub TellsGap : Table RawOne → Front → (at : Option Place) → Type 0
TellsGap t list at = IsNoneOrLinked is_linked_one t at × IsNoneOrLinked is_linked_one t (next_from t list at)

-- THE LINKS CONFIRM A MEMBER after the place `at`: they confirm the gap after `at`, and the place after `at` is not none
abbrev pub TellsMember : Table RawOne → Front → (at : Option Place) → Type 0
TellsMember t list at = TellsGap t list at × (next_from t list at ≢ None)

-- THE LINKS LEAD FROM `front` TO `at`, through the places of `walked`. Each place of `walked` is linked and names the next one, and the last one
-- names `at`. If `walked` is empty, `front` is `at`
pub record LeadsTo (t : Table RawOne) (front at : Place) : Type 0 where
  pub walked : List Place
  pub chain : IsChain (IsFollowed successor) t.entry None walked (Some at)
  pub starts : Some front ≡ first_or walked (Some at)

-- `front` is not none, and the links lead from it to the place `at`
pub record LeadsFrom (t : Table RawOne) (front : Option Place) (at : Place) : Type 0 where
  pub begin : Place
  pub is : front ≡ Some begin
  pub leads : LeadsTo t begin at

-- `new` is the list after the member `at` was removed. If `at` was the first member, the list begins with the place after `at`, or else with the
-- first place of `old`
pub record LosesFront (t : Table RawOne) (at : Option Place) (old new : Front) : Type 0 where
  pub first : old.head ≡ at → new.head ≡ next_from t old at
  pub other : old.head ≢ at → new.head ≡ old.head

-- THE DEFINITIONS BELOW are those of the file Calls, for singly linked lists
abbrev pub RepresentsList : List RawOne → RawFront → List Place → Type 0
RepresentsList = calls.RepresentsList Represents is_linked_one no_word list_of

abbrev pub FreeIn : List RawOne → Place → Type 0
FreeIn = calls.FreeIn Represents is_linked_one no_word list_of

abbrev pub IsNoneOrLinkedIn : List RawOne → Option Place → Type 0
IsNoneOrLinkedIn = calls.IsNoneOrLinkedIn Represents is_linked_one no_word list_of

abbrev pub fault_at : List RawOne → Option Place → ℕ
fault_at = calls.fault_at Represents is_linked_one no_word list_of

abbrev pub fault_of : List RawOne → Option Place → ℕ
fault_of = calls.fault_of Represents is_linked_one no_word list_of

abbrev pub Inserted : (old new : List RawOne) (list list' : RawFront) (status : ℕ) → Cut → Place → Type 0
Inserted = calls.Inserted Represents is_linked_one no_word list_of

abbrev pub Removed : (old new : List RawOne) (list list' : RawFront) (status : ℕ) → Place → (front back : List Place) → Type 0
Removed = calls.Removed Represents is_linked_one no_word list_of

abbrev pub Popped : (old new : List RawOne) (list list' : RawFront) (status number : ℕ) → Place → (front back : List Place) → Type 0
Popped = calls.Popped Represents is_linked_one no_word list_of

abbrev pub Exchanged : (old new : List RawOne) (list list' : RawFront) (status number : ℕ) → Place → (front back : List Place) → Place → Type 0
Exchanged = calls.Exchanged Represents is_linked_one no_word list_of

abbrev pub Spliced : (old new : List RawOne) (list list' : RawFront) (status : ℕ) → RawFront → Cut → List Place → Type 0
Spliced = calls.Spliced Represents is_linked_one no_word list_of

abbrev pub Split : (old new : List RawOne) (list list' : RawFront) (status : ℕ) → RawFront → Cut → Type 0
Split old new list list' status rest cut = calls.Split Represents is_linked_one no_word list_of old new list list' status rest cut cut.front cut.back

abbrev pub Cleared : (old new : List RawOne) (list list' : RawFront) (status : ℕ) → List Place → Type 0
Cleared = calls.Cleared Represents is_linked_one no_word list_of

abbrev pub Filled : (old new : List RawOne) (list list' : RawFront) (status : ℕ) → Cut → (first count : ℕ) → Type 0
Filled = fills.Filled Represents is_linked_one no_word list_of

-- a call links and unlinks places in exactly these steps, and it changes only the words of these places
abbrev pub Touched : (old new : List RawOne) → List LinkStep → (places : List (Option Place)) → Type 0
Touched old new = Touches is_linked_one (table_of old) (table_of new)

-- A PLACE p IS REMOVED FROM A LIST whose links lead to p. The place `before` is linked and has p after it, or is none if p is the first. The call
-- unlinks only p, and changes only the words of p and of `before`
pub record LeavesChain (old new : List RawOne) (list : RawFront) (p : Place) : Type 0 where
  pub before : Option Place
  pub stands : IsNoneOrLinkedIn old before
  pub leads : next_from (table_of old) (list_of list) before ≡ Some p
  pub touched : Touched old new (releases p ∷ []) (Some p ∷ before ∷ [])

-- a call links the places of the run in their order, and changes only their words and those of the place `end`
abbrev pub TouchedRun : (old new : List RawOne) → (run : List Place) → (end : Option Place) → Type 0
TouchedRun old new = fills.TouchesRun is_linked_one (table_of old) (table_of new)

-- each of the `count` places from the number `first` on belongs to the table of these words and is not linked
abbrev pub IsFreeRunIn : List RawOne → (first count : ℕ) → Type 0
IsFreeRunIn words = fills.IsFreeRun is_linked_one (table_of words)
