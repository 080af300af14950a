use Rattle.ic_link_ops.specs.LinkedList.{RepresentsSome}
use Rattle.claims_tests.proofs.parties.are_seen.Given as goal

abbrev pub invariant-loop-index : goal.invariant-loop-index
invariant-loop-index g l = g.C.Collection.Represented (g.L.LinkOps.table l.links) l.collection × RepresentsSome g.M.LinkedListOps.neighbors (g.M.LinkOps.table l.other) l.list
