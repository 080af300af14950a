-- The end of a walk over a list, and the last member that a splice must be given.
use Rattle.std.specs.Prelude.{◌≡◌, ◌⊎◌, Bool, true, false, Option, None}
use Rattle.ic_unsafe_ref.specs.declared.place.Place.{Place}

-- THE END OF A WALK: if lists of the kind store their last member, `end` is the last member `last` of the walk. Otherwise `end` and the place `after` the
-- last member are none, and the walk ends at the member that no member follows
abbrev pub WalkEnds : (keeps_last : Bool) (end after last : Option Place) → Type 0
WalkEnds true end after last = end ≡ last
WalkEnds false end after last = (end ≡ None) × (after ≡ None)

-- a splice links the member `after` right after the last member `last` of a list, and is given `kept_last`, which is `last`. `kept_last` may also be none, if
-- lists of the kind do not store their last member and `after` is none
abbrev pub KnowsLast : (keeps_last : Bool) (kept_last after last : Option Place) → Type 0
KnowsLast keeps_last kept_last after last = (kept_last ≡ last) ⊎ WalkEnds keeps_last kept_last after last
