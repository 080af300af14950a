-- This file describes objects that have one link in each of two fields, and that use one of the two links at a time.
use Rattle.std.specs.Prelude.{◌≡◌, Bool, true, false, not}
use Rattle.ic_unsafe_ref.specs.declared.place.Place.{Place}
use Rattle.ic_unsafe_ref.specs.Objects.{Objects, is_placed}
use Rattle.ic_link_ops.specs.Tables.{Table}

-- `IsOnce placed a b` is about one place. `placed` says whether the place has an object, and a and b say whether the place is
-- linked in the first and in the second field. A place with an object is linked in exactly one field, and a place without an
-- object in neither field.
abbrev pub IsOnce : Bool → Bool → Bool → Type 0
IsOnce true a b = a ≡ not b
IsOnce false a b = (a ≡ false) × (b ≡ false)

-- Each object is linked in exactly one of the two fields, and a place without an object is linked in neither field.
pub record IsLinkedOnce {E F T : Type 0} (linked_a : E → Bool) (linked_b : F → Bool) (objects : Objects T) (a : Table E) (b : Table F) : Type 0 where
  pub each : (p : Place) → IsOnce (is_placed objects p) (linked_a (a.entry p)) (linked_b (b.entry p))
