use Rattle.std.proofs.Common.{◌≡◌, ◌≤◌, take}
use Rattle.ic_link_ops.specs.LinkedList.{RepresentsSome}
use Rattle.ic_atomic.specs.AtomicLinks.{claims_of, record_in, links_of}
use Rattle.ic_atomic.proofs.GatheredPlaces.{Gathered}
use Rattle.ic_atomic.proofs.gathering.gather.Given as goal

abbrev pub invariant-loop-object : goal.invariant-loop-object
invariant-loop-object g l = record {
  shown : RepresentsSome g.L.LinkedListOps.neighbors (g.L.LinkOps.table (links_of l.links)) l.list;
  gathered : Gathered g.L.LinkedListOps.neighbors (g.L.LinkOps.table (links_of l.fn.links)) (g.L.LinkOps.table (links_of l.links)) l.fn.list l.list
      (record_in l.fn.links) (record_in l.links) (take l.object-index l.offered) l.pushed;
  claims : claims_of l.links ≡ claims_of l.fn.links;
  few : l.pushed ≤ l.object-index;
  answered : l.answered ≡ l.object-index;
  reported : g.G.Gate.Reported l.gate l.worker l.answered;
}
