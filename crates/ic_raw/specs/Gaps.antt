-- A gap is a position between two neighboring members, or at an end of a list. A call edits a list at a gap.
use Rattle.std.specs.Prelude.{◌≡◌, ◌≢◌, ◌∷◌, List, Bool, Option, Some, None}
use Rattle.ic_link_ops.specs.Prelude.{Place, Cut, at_front, at_back, first, last, IsAfter, IsBefore, Table, IsLinked, Ends, end_of}
use Rattle.ic_raw.specs.declared.gap.Gap.{Gap}
use Rattle.ic_raw.specs.Tables.{IsFree}
use Rattle.ic_raw.specs.declared.gap.GapSide.{GapSide}
use Rattle.ic_raw.specs.declared.gap.GapSide.TheVariants.{After, Before}

-- for the side `After`, the cut is after the place `at`, or before all members if `at` is none. For the side `Before`, the cut is before the place
-- `at`, or after all members if `at` is none
abbrev pub IsBeside : GapSide → Cut → Option Place → Type 0
IsBeside After cut at = IsAfter cut at
IsBeside Before cut at = IsBefore cut at

-- the place is none, or it is linked
abbrev pub IsNoneOrLinked : {E : Type 0} → (E → Bool) → Table E → Option Place → Type 0
IsNoneOrLinked linked t at = (q : Place) → at ≡ Some q → IsLinked linked t q

-- the place on each side of the gap is none, or it is linked
abbrev pub StandBeside : {E : Type 0} → (E → Bool) → Table E → Gap → Type 0
StandBeside linked t gap = IsNoneOrLinked linked t gap.before × IsNoneOrLinked linked t gap.after

-- the caller names a place, and this place belongs to the table and is not linked
abbrev pub NamesFree : {E : Type 0} → (E → Bool) → Table E → Option Place → Type 0
NamesFree linked t place = (p : Place) × (place ≡ Some p) × IsFree linked t p

-- two lists begin apart: no place is the first member of both
abbrev pub BeginApart : (one other : Option Place) → Type 0
BeginApart one other = (p : Place) → other ≡ Some p → one ≢ Some p

-- `gap_between` is the gap between the places `before` and `after`. One of them is none if the gap is at an end of the list
abbrev pub gap_between : (before after : Option Place) → Gap
gap_between before after = record { before = before; after = after }

-- THE ENDS OF A LIST after an edit at a gap: if a member is before the gap, the list keeps its first member, or else it begins with `begins`. If a
-- member is after the gap, the list keeps its last member, or else it ends with `ends`
pub record Turns (gap : Gap) (begins ends : Option Place) (old new : Ends) : Type 0 where
  pub head : new.head ≡ end_of gap.before begins old.head
  pub tail : new.tail ≡ end_of gap.after ends old.tail

-- `new` is the ends of the list after the place `place` was inserted into the gap
abbrev pub PutIn : Gap → (place : Option Place) → (old new : Ends) → Type 0
PutIn gap place = Turns gap place place

-- `new` is the ends of the list after the member between the two sides of the gap was removed. The two sides are neighbors then
abbrev pub TakenOut : Gap → (old new : Ends) → Type 0
TakenOut gap = Turns gap gap.after gap.before

-- `or_else` is the first of two places, or the second one if the first is none
abbrev pub or_else : Option Place → Option Place → Option Place
or_else None other = other
or_else (Some p) other = Some p

-- `new` is the ends of the list after all members of the list `given` were moved into the gap. If `given` is empty, the two sides of the gap stay
-- neighbors
abbrev pub AllPutIn : Gap → (given old new : Ends) → Type 0
AllPutIn gap given = Turns gap (or_else given.head gap.after) (or_else given.tail gap.before)

-- A MEMBER MOVES: it is removed from between the two places of `from` and inserted into the gap `to`, and the list then has the ends `new`
abbrev pub IsMoved : (from : Gap) → (member : Option Place) → (to : Gap) → (old new : Ends) → Type 0
IsMoved from member to old new = (without : Ends) × TakenOut from old without × PutIn to member without new

-- A LIST IS CUT AT A GAP: the part before the gap begins as the list did, and the part after the gap ends as the list did. A part without members has
-- no ends
pub record IsCutAt (gap : Gap) (old front back : Ends) : Type 0 where
  pub front_head : front.head ≡ end_of gap.before None old.head
  pub front_tail : front.tail ≡ gap.before
  pub back_head : back.head ≡ gap.after
  pub back_tail : back.tail ≡ end_of gap.after None old.tail

-- the list with the ends `old` is cut at the gap. The part after the gap is `handed` for `After`, and `kept` for `Before`. The part before the gap is
-- the other one of the two
abbrev pub IsCutBeside : GapSide → Gap → (old kept handed : Ends) → Type 0
IsCutBeside After gap old kept handed = IsCutAt gap old kept handed
IsCutBeside Before gap old kept handed = IsCutAt gap old handed kept

-- the place is on neither side of a gap
abbrev pub IsApart : Gap → Place → Type 0
IsApart gap p = (gap.before ≢ Some p) × (gap.after ≢ Some p)

-- `gap_of` is the gap between the last place before the cut and the first place after the cut
abbrev pub gap_of : Cut → Gap
gap_of cut = record { before = last cut.front; after = first cut.back }

-- `outermost` is the cut that a side means if the caller names no member: for `After` it is before all members, and for `Before` it is after all
-- members
abbrev pub outermost : GapSide → List Place → Cut
outermost After s = at_front s
outermost Before s = at_back s

-- `toward` is the place before the gap for the side `After`, and the place after the gap for the side `Before`
abbrev pub toward : GapSide → Gap → Option Place
toward After gap = gap.before
toward Before gap = gap.after

-- `before p front back` is the gap before the member p of the list that consists of `front`, p and `back`
abbrev pub before : Place → (front back : List Place) → Cut
before p front back = record { front = front; back = p ∷ back }
