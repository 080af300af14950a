-- Each call in the tests of rings maintains these facts: a table covers eight places, and represents two rings that share no place.
use Rattle.std.specs.Prelude.{◌≡◌, List, ◌∷◌}
use Rattle.ic_link_ops.specs.Prelude.{Place, IsAbsent, Table, Neighbors}
use Rattle.ic_ring.specs.Rings.{InRing, Represents}

-- the table `t` covers eight places, and represents two rings that share no place. The heads of the rings are `ring` and `other`
pub record TwoRings {E : Type 0} (n : E → Neighbors) (t : Table E) (ring other : Place) : Type 0 where
  pub covers : t.extent.places ≡ 8
  pub shown : InRing n t ring
  pub apart : (u : List Place) × Represents n t other u × IsAbsent ring (other ∷ u)
