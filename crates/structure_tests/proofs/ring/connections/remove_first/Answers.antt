use Rattle.std.proofs.Common.{[], drop}
use Rattle.structure_tests.proofs.Rings.{first_of, first_in_ring}
use Rattle.structure_tests.proofs.ring.connections.remove_first.Goals as goal

pub close-requires : goal.close-requires
close-requires g c = let q = c.requires.queue in record { queued = rw c.new.ensures (first_in_ring g.L.LinkedListOps.neighbors (g.L.LinkOps.table c.args.links.now) q.0 q.1 (c.in-Some.ensures q.0 q.1)) }

pub returns-clause-queue : goal.returns-clause-queue
returns-clause-queue g c =
    let q = c.requires.queue in (drop 1 q.0, (rw c.new.ensures at c.close.ensures.left) c.args.queue.now [] (drop 1 q.0) (first_of g.L.LinkedListOps.neighbors (g.L.LinkOps.table c.args.links.now) q.0 q.1 (c.in-Some.ensures q.0 q.1)))
