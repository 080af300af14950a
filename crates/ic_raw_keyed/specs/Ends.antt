-- The first and the last member of a red-black tree, in words that a caller keeps beside the word of the tree.
use Rattle.std.specs.Prelude.{◌≡◌, ◌≢◌, ◌⊎◌, List, Option, Some, None}
use Rattle.ic_link_ops.specs.Prelude.{Place, word_of, Table, IsLinked}
use Rattle.ic_link_ops.specs.Frames.{across}
use Rattle.ic_link_ops.specs.declared.side.Side.{Side}
use Rattle.ic_link_ops.specs.declared.side.Side.TheVariants.{Left, Right}
use Rattle.ic_rbtree.specs.Prelude.{end_on, StepsTo}
use Rattle.ic_raw.specs.declared.words.RawThree.{RawThree}
use Rattle.ic_raw.specs.Prelude.{seen, seen_node, StepEndsIn, place_in, is_linked_three}
use Rattle.ic_raw_keyed.specs.declared.ends.RawTreeEnds.{RawTreeEnds}

-- the member that the word of an end names: the first member for the left side, the last member for the right side
abbrev pub end_in : Side → RawTreeEnds → Option Place
end_in Left ends = place_in ends.first
end_in Right ends = place_in ends.last

-- the two words that a call writes if the tree has the ends `first` and `last`. The word of a missing end is 0
abbrev pub words_of : (first last : Option Place) → RawTreeEnds
words_of first last = record { first = word_of first; last = word_of last }

-- the words of both ends have exactly the bits that a call writes for the places which these words name
abbrev pub IsWritten : RawTreeEnds → Type 0
IsWritten ends = ends ≡ words_of (place_in ends.first) (place_in ends.last)

-- the words `ends` name the first and the last member of s. If s is empty, both words name none
abbrev pub SaysEnds : RawTreeEnds → List Place → Type 0
SaysEnds ends s = (side : Side) → end_in side ends ≡ end_on side s

-- the end on the side `side` after `place` was inserted: the new end `is` equals the old end `was`, or it equals `place`. In the second case no step leads from
-- `place` to the side `side`
abbrev pub EndWith : Table RawThree → (root : Option Place) → Side → (place was is : Option Place) → Type 0
EndWith t root side place was is = (is ≡ was) ⊎ ((is ≡ place) × StepEndsIn t root side place)

-- the links lead from the end `out` on the side `side` one step inwards to the given place, which is linked and is not `out`. If no place is given, no step
-- leads inwards from `out`
abbrev pub IsNextEnd : Table RawThree → (root : Option Place) → Side → (out : Place) → Option Place → Type 0
IsNextEnd t root side out None = StepEndsIn t root (across side) (Some out)
IsNextEnd t root side out (Some q) = StepsTo seen_node (seen t) root (across side) (Some out) q × IsLinked is_linked_three t q × (q ≢ out)

-- the end on the side `side` after the member `out` was removed: if `out` was this end, the new end `is` equals the next place inwards. Otherwise `is` equals
-- the old end `was`
pub record LosesEnd (t : Table RawThree) (root : Option Place) (side : Side) (out : Place) (was is : Option Place) : Type 0 where
  pub next : was ≡ Some out → IsNextEnd t root side out is
  pub other : was ≢ Some out → is ≡ was
