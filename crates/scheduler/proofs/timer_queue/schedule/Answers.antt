use Rattle.ic_rbtree.proofs.SortedKeys.{sorted_inserted}
use Rattle.scheduler.proofs.timer_queue.schedule.Goals as goal

pub returns-clause-queue : goal.returns-clause-queue
returns-clause-queue g c =
    let e = c.insert.ensures in
    let q = c.requires.queue in
    sorted_inserted g.T.HasDeadline.deadline c.args.objects.now g.met.L.LinkOps.refused_keeps _ _ _ c.requires.object q c.insert.result (e.inserted _ q.placed.shown) e.refused e.unchanged
