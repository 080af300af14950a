use Rattle.std.proofs.Common.{[], drop, inr, refl}
use Rattle.structure_tests.proofs.Rings.{first_of, first_in_ring, places_of}
use Rattle.structure_tests.proofs.ring.connections.rotate_left.Goals as goal

pub touch-requires-clause-queued : goal.touch-requires-clause-queued
touch-requires-clause-queued g c = let q = c.requires.shown in rw c.new.ensures (first_in_ring g.L.LinkedListOps.neighbors (g.L.LinkOps.table c.args.links.now) q.0 q.1 (c.in-Some.ensures q.0 q.1))

pub touch-requires-clause-other : goal.touch-requires-clause-other
touch-requires-clause-other g c = let q = c.requires.shown in rw c.new.ensures (first_of g.L.LinkedListOps.neighbors (g.L.LinkOps.table c.args.links.now) q.0 q.1 (c.in-Some.ensures q.0 q.1)).distinct.0.0

pub returns-clause-covers : goal.returns-clause-covers
returns-clause-covers g c = places_of c.touch.ensures.extent c.requires.covers

pub returns-clause-shown : goal.returns-clause-shown
returns-clause-shown g c =
    let q = c.requires.shown in (_, (rw c.new.ensures at c.touch.ensures.touched) (drop 1 q.0) (inr ([], drop 1 q.0, first_of g.L.LinkedListOps.neighbors (g.L.LinkOps.table c.args.links.now) q.0 q.1 (c.in-Some.ensures q.0 q.1), refl)))
