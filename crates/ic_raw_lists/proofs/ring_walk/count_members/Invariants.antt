use Rattle.std.proofs.Common.{◌-◌}
use Rattle.ic_raw.specs.LinkWords.{lent_table, neighbors, wide_words}
use Rattle.ic_raw_lists.specs.RingOrders.{IsNotAmong}
use Rattle.ic_raw_lists.proofs.RingWalks.{Passes}
use Rattle.ic_raw_lists.proofs.ring_walk.count_members.Given as goal

abbrev pub invariant-loop-count : goal.invariant-loop-count
invariant-loop-count l = (k : Passes (neighbors wide_words) (lent_table wide_words l.fn.links) l.fn.head l.at l.count) × IsNotAmong l.fn.apart k.passed

abbrev pub decreases-loop-count : goal.decreases-loop-count
decreases-loop-count l = (lent_table wide_words l.fn.links).extent.places - l.count
