use Rattle.ic_plain.specs.SortedTrees.{IsInOrder}
use Rattle.plain_tests.proofs.trees.schedule_at.Goals as goal

pub returns-clause-shown : goal.returns-clause-shown
unfolding IsInOrder
returns-clause-shown g c = let s = c.schedule.ensures.sorted.placed in (s.members, s.shown)
