-- This file proves for which ends of a list the words of a table have room.
use Rattle.std.proofs.Common.{◌≡◌, Option, Some, None, refl}
use Rattle.ic_link_ops.specs.Base.{Place, IsNameable}

-- The words have room for an end if the end is none, or if it is a place for which the words have room.
pub end_named : (can : Place → Type 0) (o : Option Place) → ((q : Place) → o ≡ Some q → can q) → IsNameable can o
end_named can None h = tt
end_named can (Some p) h = h p refl
