-- This file defines what a correct order of places is.
use Rattle.std.specs.Prelude.{◌≡◌, ◌<◌, ◌↔◌}
use Rattle.std.specs.Cmp.{IsTotalOrder}
use Rattle.std.specs.declared.cmp.Ordering.{Ordering}
use Rattle.std.specs.declared.cmp.Ordering.TheVariants.{Less, Equal}
use Rattle.ic_unsafe_ref.specs.declared.place.Place.{Place}
use Rattle.ic_unsafe_ref.specs.Places.{index_of}

-- A correct order of places is total. It returns `Equal` exactly if both places are the same, and `Less` exactly if the index of
-- the first place is less than that of the second.
pub record OrdersPlaces (order : Place → Place → Ordering) : Type 0 where
  pub total : IsTotalOrder order
  pub equal : (p q : Place) → (order p q ≡ Equal) ↔ (p ≡ q)
  pub less : (p q : Place) → (order p q ≡ Less) ↔ (index_of p < index_of q)
