use Rattle.std.proofs.Common.{◌-◌}
use Rattle.ic_check.proofs.Checking.{Checks}
use Rattle.ic_check.proofs.list.check.Given as goal

abbrev pub invariant-loop-current : goal.invariant-loop-current
invariant-loop-current g l = Checks g.K.ForwardLinks.Between (g.L.LinkOps.table l.links) l.list.head l.before l.current l.count

abbrev pub decreases-loop-current : goal.decreases-loop-current
decreases-loop-current g l = (g.L.LinkOps.table l.links).extent.places - l.count
