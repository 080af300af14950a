-- The position of a cursor in a ring. The cursor is on a member or on the head, which comes after the last member and before the first.
use Rattle.std.specs.Prelude.{◌≡◌, ◌≢◌, Option, None, Some}
use Rattle.std.specs.Borrow.{Bor}
use Rattle.std.specs.Option.{option_copied}
use Rattle.ic_link_ops.specs.Prelude.{Place, Objects, object_at, Cut, join, first_or, last_or, Table, Neighbors}
use Rattle.ic_ring.specs.Rings.{Represents}

-- THE GAP IS RIGHT AFTER THE CURSOR: the cursor is on the last member before the gap, or on the head if no member is before the gap
abbrev pub IsAfter : Place → Cut → Place → Type 0
IsAfter head gap at = Some at ≡ last_or (Some head) gap.front

-- THE GAP IS RIGHT BEFORE THE CURSOR: the cursor is on the first member after the gap, or on the head if no member is after the gap
abbrev pub IsBefore : Place → Cut → Place → Type 0
IsBefore head gap at = Some at ≡ first_or gap.back (Some head)

-- the third argument is the member that the cursor at the place `at` is on, or none if the cursor is on the head
abbrev pub IsOn : Place → Place → Option Place → Type 0
IsOn head at None = at ≡ head
IsOn head at (Some p) = (p ≡ at) × (at ≢ head)

-- A LOOK-UP finds the object at the place `at` of the cursor, or none if the cursor is on the head
pub record LooksUp {T : Type 0} (objects : Objects T) (head at : Place) (result : Option (Bor T)) : Type 0 where
  pub on : at ≢ head → option_copied result ≡ object_at objects at
  pub null : at ≡ head → result ≡ None

module _ {E : Type 0} (neighbors : E → Neighbors) (t : Table E) (head : Place) where
  -- THE CURSOR IS VALID: the table represents a sequence of members for the ring, and the cursor is on one of these members or on the head
  abbrev pub IsValidCursor : Place → Type 0
  IsValidCursor at = (gap : Cut) × Represents neighbors t head (join gap) × IsAfter head gap at

  -- A MOVE TO THE NEXT MEMBER leads from the place `old` to the place `new`: the gap right after the cursor at `old` is right before the cursor at
  -- `new`
  abbrev pub MovesOn : Place → Place → Type 0
  MovesOn old new = (gap : Cut) → Represents neighbors t head (join gap) → IsAfter head gap old → IsBefore head gap new

  -- A MOVE TO THE PREVIOUS MEMBER leads from the place `old` to the place `new`: the gap right before the cursor at `old` is right after the cursor
  -- at `new`
  abbrev pub MovesBack : Place → Place → Type 0
  MovesBack old new = (gap : Cut) → Represents neighbors t head (join gap) → IsBefore head gap old → IsAfter head gap new
