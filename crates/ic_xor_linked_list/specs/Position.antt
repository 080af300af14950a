-- What a cursor of an XOR list stores.
use Rattle.std.specs.Prelude.{◌≡◌, ⊤, Option, Some, None}
use Rattle.ic_unsafe_ref.specs.declared.place.Place.{Place}

-- A POSITION on a member stores the member, and the member after it, or none if there is no next member
pub record PlaceAndNext : Type 0 where
  pub place : Place
  pub next : Option Place

-- the position that stores the member `current` and the next member, or none if `current` is none, because a position at null stores nothing
abbrev pub position_on : (current next : Option Place) → Option PlaceAndNext
position_on None next = None
position_on (Some p) next = Some (record { place = p; next = next })

-- the member that a position is on, or none if the position is null
abbrev pub member_of : Option PlaceAndNext → Option Place
member_of None = None
member_of (Some at) = Some at.place

-- the position stores `next` as the place after its member, or the position is null and stores nothing
abbrev pub CachesNext : Option PlaceAndNext → Option Place → Type 0
CachesNext None next = ⊤
CachesNext (Some at) next = at.next ≡ next
