use Rattle.std.proofs.Common.{◌-◌}
use Rattle.ic_check.proofs.MarkedWalks.{Walks}
use Rattle.ic_check.proofs.gather.LinkListGather.gather.Given as goal

abbrev pub invariant-loop-current : goal.invariant-loop-current
invariant-loop-current g l = record {
  walks : Walks g.K.ForwardLinks.Between (g.L.LinkOps.table l.links) l.self.head l.before l.current l.count l.initial.marks l.marks;
}

abbrev pub decreases-loop-current : goal.decreases-loop-current
decreases-loop-current g l = (g.L.LinkOps.table l.links).extent.places - l.count
