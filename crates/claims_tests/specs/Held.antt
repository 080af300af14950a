-- The fixture of the tests knows which place a holder holds, if it holds one.
use Rattle.std.specs.Prelude.{◌≡◌, true, List, Option, Some}
use Rattle.ic_unsafe_ref.specs.declared.place.Place.{Place}
use Rattle.ic_atomic.specs.declared.step.Event.{Event}
use Rattle.ic_atomic.specs.Records.{holds}

-- a holder with the record `record_now` holds the place `held`, if `held` is a place
abbrev pub Holds : List Event → Option Place → Type 0
Holds record_now held = (p : Place) → held ≡ Some p → holds p record_now ≡ true
