use Rattle.ic_rbtree.specs.Prelude.{PlainRepresents, root_of, RepresentsSorted}
use Rattle.uses_tests.specs.declared.trees.Timer.{Timer}
use Rattle.uses_tests.proofs.trees.the_earliest_timer_is_taken_first.Given as goal

abbrev pub invariant-loop-index : goal.invariant-loop-index
invariant-loop-index g l = record { queue : RepresentsSorted (λ (timer : Timer). timer.deadline) (PlainRepresents l.links (root_of l.timers)) l.objects }
