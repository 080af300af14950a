use Rattle.std.proofs.Common.{◌≤◌, ◌-◌, drop, length}
use Rattle.ic_check.specs.WholeTables.{MarksLinked}
use Rattle.ic_check.proofs.Marking.{Gathers}
use Rattle.ic_check.proofs.whole.gather_each.Given as goal

abbrev pub invariant-loop-index : goal.invariant-loop-index
invariant-loop-index g l = record {
  gathers : Gathers (λ c. g.C.Gather.Represents c (g.L.LinkOps.table l.links)) l.collections (drop l.index l.collections) l.initial.marks l.marks l.count;
  only : MarksLinked g.L.LinkOps.linked (g.L.LinkOps.table l.links) l.initial.marks l.marks;
  low : l.index ≤ length l.collections;
}

abbrev pub decreases-loop-index : goal.decreases-loop-index
decreases-loop-index g l = length l.collections - l.index
