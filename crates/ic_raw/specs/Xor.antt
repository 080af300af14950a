-- This file says when words that a caller lends represent an XOR linked list.
use Rattle.std.specs.Prelude.{◌≡◌, true, ℕ, List, [], ◌∷◌, Option, Some, None}
use Rattle.ic_link_ops.specs.Prelude.{Place, Cut, Table, Ends}
use Rattle.ic_link_ops.specs.XorLinkedList as xor
use Rattle.ic_raw.specs.declared.words.RawOne.{RawOne}
use Rattle.ic_raw.specs.declared.words.RawEnds.{RawEnds}
use Rattle.ic_raw.specs.Words.{no_word, is_linked_one, next_of_one}
use Rattle.ic_raw.specs.Tables.{joins_of, other_of}
use Rattle.ic_raw.specs.Doubly.{ends_of}
use Rattle.ic_raw.specs.Calls as calls
use Rattle.ic_raw.specs.Fills as fills

-- the word of a place says that its neighbors are these two places
abbrev pub HasNeighbors : RawOne → Option Place → Option Place → Type 0
HasNeighbors = joins_of next_of_one

-- `other w a` is the second neighbor of a place, if w is the word of the place and a is its first neighbor
abbrev pub other : RawOne → Option Place → Option Place
other = other_of next_of_one

-- THE TABLE REPRESENTS A SEQUENCE of places as the XOR linked list with these ends
abbrev pub Represents : Table RawOne → Ends → List Place → Type 0
Represents = xor.Represents is_linked_one HasNeighbors

-- `beyond` is the neighbor of the place `at` that is opposite to `neighbor`, by the word of `at`. If `at` is none, `beyond` is none
abbrev pub beyond : Table RawOne → (at neighbor : Option Place) → Option Place
beyond t None neighbor = None
beyond t (Some p) neighbor = other (t.entry p) neighbor

-- THE LIST GOES ON beyond the place p: the place `beyond` is linked, or it is none and p is `end`, the end of the list on the side of `beyond`
abbrev pub GoesOn : (Place → RawOne) → (end : Option Place) → Place → (beyond : Option Place) → Type 0
GoesOn entry end p None = end ≡ Some p
GoesOn entry end p (Some q) = is_linked_one (entry q) ≡ true

-- A PLACE FACES ITS NEIGHBOR: the place is linked, and the list goes on beyond the place, on the side away from the neighbor. If there is no place,
-- the neighbor is `end`, an end of the list
abbrev pub Faces : (Place → RawOne) → (end place neighbor : Option Place) → Type 0
Faces entry end None neighbor = end ≡ neighbor
Faces entry end (Some p) neighbor = (is_linked_one (entry p) ≡ true) × GoesOn entry end p (other (entry p) neighbor)

-- THE LINKS CONFIRM A GAP: the places on both sides of the gap face each other. The links confirm each gap of a list, but they may also confirm a gap
-- that the list does not have. For example, they confirm a gap between 1 and 6 in the list 0, 1, .., 6. The words of 1 and 6 then name the linked
-- places 4 and 3 beyond them
abbrev pub TellsGap : Table RawOne → Ends → (before after : Option Place) → Type 0
TellsGap t list before after = Faces t.entry list.head before after × Faces t.entry list.tail after before

-- THE LINKS CONFIRM A MEMBER p between two places: the places `before` and `after` both face p
abbrev pub TellsMember : Table RawOne → Ends → (before : Option Place) → Place → (after : Option Place) → Type 0
TellsMember t list before p after = Faces t.entry list.head before (Some p) × Faces t.entry list.tail after (Some p)

-- THE LINKS CONFIRM THE MEMBER `at`: for `TellsMemberAfter`, `before` is the place before `at`, or none if `at` is the first member. For
-- `TellsMemberBefore`, `after` is the place after `at`, or none if `at` is the last member
abbrev pub TellsMemberAfter : Table RawOne → Ends → (before at : Option Place) → Type 0
TellsMemberAfter t list before at = (p : Place) → at ≡ Some p → TellsMember t list before p (other (t.entry p) before)

abbrev pub TellsMemberBefore : Table RawOne → Ends → (after at : Option Place) → Type 0
TellsMemberBefore t list after at = (p : Place) → at ≡ Some p → TellsMember t list (other (t.entry p) after) p after

-- THE LINKS CONFIRM A LIST by its ends: the first member is linked and has no place before it, and the last is linked and has no place after it. If
-- one end is none, both are
abbrev pub TellsEnds : Table RawOne → Ends → Type 0
TellsEnds t list = Faces t.entry list.tail list.head None × Faces t.entry list.head list.tail None

-- THE LINKS LEAD THROUGH s to the end of the list: each place of s is linked, and its word and the place before it name the next place.
-- `LeadsThrough` says this from the first member on. `LeadsOn` says it from the place `at` on, with the place `from` before `at`. Unlike a list, s
-- may have a place twice
abbrev pub LeadsOn : (Place → RawOne) → (end from at : Option Place) → List Place → Type 0
LeadsOn entry end from at [] = (at ≡ None) × (end ≡ from)
LeadsOn entry end from at (x ∷ s) = (at ≡ Some x) × (is_linked_one (entry x) ≡ true) × LeadsOn entry end (Some x) (other (entry x) from) s

abbrev pub LeadsThrough : Table RawOne → Ends → List Place → Type 0
LeadsThrough t list s = LeadsOn t.entry list.tail None list.head s

-- THE DEFINITIONS BELOW are those of the file Calls, for XOR linked lists
abbrev pub RepresentsList : List RawOne → RawEnds → List Place → Type 0
RepresentsList = calls.RepresentsList Represents is_linked_one no_word ends_of

abbrev pub FreeIn : List RawOne → Place → Type 0
FreeIn = calls.FreeIn Represents is_linked_one no_word ends_of

abbrev pub IsNoneOrLinkedIn : List RawOne → Option Place → Type 0
IsNoneOrLinkedIn = calls.IsNoneOrLinkedIn Represents is_linked_one no_word ends_of

abbrev pub fault_at : List RawOne → Option Place → ℕ
fault_at = calls.fault_at Represents is_linked_one no_word ends_of

abbrev pub fault_of : List RawOne → Option Place → ℕ
fault_of = calls.fault_of Represents is_linked_one no_word ends_of

abbrev pub Inserted : (old new : List RawOne) (list list' : RawEnds) (status : ℕ) → Cut → Place → Type 0
Inserted = calls.Inserted Represents is_linked_one no_word ends_of

abbrev pub Removed : (old new : List RawOne) (list list' : RawEnds) (status : ℕ) → Place → (front back : List Place) → Type 0
Removed = calls.Removed Represents is_linked_one no_word ends_of

abbrev pub Popped : (old new : List RawOne) (list list' : RawEnds) (status number : ℕ) → Place → (front back : List Place) → Type 0
Popped = calls.Popped Represents is_linked_one no_word ends_of

abbrev pub Replaced : (old new : List RawOne) (list list' : RawEnds) (status : ℕ) → Place → (front back : List Place) → Place → Type 0
Replaced = calls.Replaced Represents is_linked_one no_word ends_of

abbrev pub Spliced : (old new : List RawOne) (list list' : RawEnds) (status : ℕ) → RawEnds → Cut → List Place → Type 0
Spliced = calls.Spliced Represents is_linked_one no_word ends_of

abbrev pub Split : (old new : List RawOne) (list list' : RawEnds) (status : ℕ) → RawEnds → Cut → Type 0
Split old new list list' status rest cut = calls.Split Represents is_linked_one no_word ends_of old new list list' status rest cut cut.front cut.back

abbrev pub Cleared : (old new : List RawOne) (list list' : RawEnds) (status : ℕ) → List Place → Type 0
Cleared = calls.Cleared Represents is_linked_one no_word ends_of

abbrev pub Filled : (old new : List RawOne) (list list' : RawEnds) (status : ℕ) → Cut → (first count : ℕ) → Type 0
Filled = fills.Filled Represents is_linked_one no_word ends_of

-- LINKED PLACES ARE UNLINKED, AND NOTHING ELSE CHANGES: each entry of `new` is equal to that of `old`, or it is the word of an unlinked place and the
-- entry of `old` is that of a linked place
abbrev pub OnlyUnlinks : (old new : Table RawOne) → Type 0
OnlyUnlinks = calls.OnlyUnlinks is_linked_one (λ w. no_word)
