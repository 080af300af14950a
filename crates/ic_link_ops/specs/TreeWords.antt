-- The word of a tree link that stores the parent, the color and whether the place is linked.
use Rattle.std.specs.Prelude.{ℕ, ◌+◌, ◌*◌, ◌/◌, ◌%◌, Bool, true, false, cond, nat_eq, Option, None}
use Rattle.ic_unsafe_ref.specs.declared.place.Place.{Place}
use Rattle.ic_unsafe_ref.specs.Places.{place_at, word_of}
use Rattle.ic_link_ops.specs.declared.color.Color.{Color}
use Rattle.ic_link_ops.specs.declared.color.Color.TheVariants.{Red, Black}

-- The parts that the third word of a tree link stores: whether the place is linked, its parent, and its color.
pub record Parts : Type 0 where
  pub linked : Bool
  pub parent : Option Place
  pub color : Color

-- `unlinked` describes the word of an unlinked place, and `linked` describes the word of a linked black place without a parent.
abbrev pub unlinked : Parts
unlinked = record { linked = false; parent = None; color = Red }

abbrev pub linked : Parts
linked = record { linked = true; parent = None; color = Black }

-- The word of a linked place with the given parent and the given color.
abbrev pub linked_below : Option Place → Color → Parts
linked_below parent color = record { linked = true; parent = parent; color = color }

-- `one_if` is 1 for true and 0 for false, and `one_if_black` is 1 for black and 0 for red.
abbrev pub one_if : Bool → ℕ
one_if true = 1
one_if false = 0

abbrev pub one_if_black : Color → ℕ
one_if_black Red = 0
one_if_black Black = 1

-- The number that is printed for the word: 4 * (parent + 1) + 2 * linked + black. The word itself stores 8 * (parent + 1) for the
-- parent.
abbrev pub number_of : Parts → ℕ
number_of parts = word_of parts.parent / 2 + 2 * one_if parts.linked + one_if_black parts.color

-- The parts (linked, parent and color) of the word that stores the number n.
abbrev pub parts_at : ℕ → Parts
parts_at n = record {
  linked = nat_eq (n / 2 % 2) 1;
  parent = place_at (n / 8 * 8);
  color = cond (nat_eq (n % 2) 0) Red Black;
}
