-- This file describes sequences of places: how a sequence is cut at a gap, joined again, and edited at the gap.
use Rattle.std.specs.Prelude.{◌≡◌, ◌≢◌, ℕ, Option, Some, None, List, [], ◌∷◌, ◌++◌, take, drop}
use Rattle.ic_unsafe_ref.specs.declared.place.Place.{Place}

-- A cut is a sequence in two parts. The gap is the position between the two parts.
pub record Cut : Type 0 where
  pub front : List Place
  pub back : List Place

-- `cut_at s g` cuts the sequence s at the gap after its first g members.
abbrev pub cut_at : List Place → ℕ → Cut
cut_at s g = record { front = take g s; back = drop g s }

-- `at_front s` cuts s before its first member, and `at_back s` cuts s after its last member.
abbrev pub at_front : List Place → Cut
at_front s = record { front = []; back = s }

abbrev pub at_back : List Place → Cut
at_back s = record { front = s; back = [] }

-- The whole sequence: the members before the gap, followed by the members after the gap.
abbrev pub join : Cut → List Place
join gap = gap.front ++ gap.back

-- The sequence after the place p was inserted at the gap.
abbrev pub insert : Cut → Place → List Place
insert gap p = gap.front ++ p ∷ gap.back

-- The sequence after the member that follows the gap was removed.
abbrev pub remove : Cut → List Place
remove gap = gap.front ++ drop 1 gap.back

-- The sequence after the member that follows the gap was replaced by the place p.
abbrev pub replace : Cut → Place → List Place
replace gap p = gap.front ++ p ∷ drop 1 gap.back

-- The sequence after all members of t were inserted at the gap.
abbrev pub splice : Cut → List Place → List Place
splice gap t = gap.front ++ (t ++ gap.back)

-- The first member of s, or a if s is empty.
abbrev pub first_or : List Place → Option Place → Option Place
first_or [] a = a
first_or (x ∷ s) a = Some x

-- The last member of s, or b if s is empty.
abbrev pub last_or : Option Place → List Place → Option Place
last_or b [] = b
last_or b (x ∷ s) = last_or (Some x) s

-- `first s` is the first member of s, and `last s` is the last member of s. Both are none if s is empty.
abbrev pub first : List Place → Option Place
first s = first_or s None

abbrev pub last : List Place → Option Place
last s = last_or None s

-- All members of s except the last member.
abbrev pub but_last : List Place → List Place
but_last [] = []
but_last (x ∷ []) = []
but_last (x ∷ y ∷ s) = x ∷ but_last (y ∷ s)

-- The gap is after the cursor: the cursor is on the last member before the gap, or it is null if no member is before the gap.
abbrev pub IsAfter : Cut → Option Place → Type 0
IsAfter gap cursor = cursor ≡ last gap.front

-- The gap is before the cursor: the cursor is on the first member after the gap, or it is null if no member is after the gap.
abbrev pub IsBefore : Cut → Option Place → Type 0
IsBefore gap cursor = cursor ≡ first gap.back

-- The place q is not a member of the sequence s.
abbrev pub IsAbsent : Place → List Place → Type 0
IsAbsent q [] = Unit {0}
IsAbsent q (x ∷ s) = (q ≢ x) × IsAbsent q s

-- The place q is a member of the sequence s.
abbrev pub IsMember : Place → List Place → Type 0
IsMember q s = IsAbsent q s → ⊥

-- No place occurs twice in the sequence s.
abbrev pub IsDistinct : List Place → Type 0
IsDistinct [] = Unit {0}
IsDistinct (x ∷ s) = IsAbsent x s × IsDistinct s

-- No member of the sequence s is a member of the sequence t.
abbrev pub IsDisjoint : List Place → List Place → Type 0
IsDisjoint [] t = Unit {0}
IsDisjoint (x ∷ s) t = IsAbsent x t × IsDisjoint s t
