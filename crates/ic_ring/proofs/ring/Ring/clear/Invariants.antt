use Rattle.std.proofs.Common.{◌∷◌, [], List, length}
use Rattle.ic_link_ops.specs.Prelude.{Place, releases_each}
use Rattle.ic_ring.specs.Rings.{Represents, OthersStay, members}
use Rattle.ic_ring.proofs.Clearance.{Clears}
use Rattle.ic_ring.proofs.ring.Ring.clear.Given as goal

abbrev pub invariant-loop : goal.invariant-loop
invariant-loop g l = record {
  cleared : (s : List Place) → Represents g.L.LinkedListOps.neighbors (g.L.LinkOps.table l.fn.links) l.fn.self s
      → (k : Clears g.L.LinkedListOps.neighbors (g.L.LinkOps.table l.fn.links) (g.L.LinkOps.table l.links) l.fn.self s) × g.L.LinkOps.Trace l.fn.links l.links (releases_each k.done);
  others : OthersStay g.L.LinkedListOps.neighbors (g.L.LinkOps.table l.fn.links) (g.L.LinkOps.table l.links) (l.fn.self ∷ []);
}

abbrev pub decreases-loop : goal.decreases-loop
decreases-loop g l = length (members g.L.LinkedListOps.neighbors (g.L.LinkOps.table l.links) l.fn.self)
