use Rattle.ic_link_ops.proofs.RepresentedTrees.{one_sequence}
use Rattle.ic_rbtree.proofs.SortedKeys.{sorted_less}
use Rattle.scheduler.proofs.timer_queue.cancel.Goals as goal

pub returns-clause-queue : goal.returns-clause-queue
returns-clause-queue g c objects q =
    sorted_less g.T.HasDeadline.deadline objects (λ s u shown other. one_sequence shown other) c.requires.member c.remove.ensures.removed q
