use Rattle.std.proofs.Common.{rules}
use Rattle.ic_link_ops.proofs.RepresentedTrees.{one_sequence}
use Rattle.scheduler.proofs.TimersDue.{taken_earliest}
use Rattle.scheduler.proofs.timer_queue.take_due.Goals as goal

pub take_due_at-requires : goal.take_due_at-requires
take_due_at-requires g c =
    let e = c.front_mut-cursor.ensures in
    record { front = record { queue = rw (e.borrows.3, e.borrows.2) c.requires.queue; first_is = λ s shown. e.position s (rw (e.borrows.3, e.borrows.2) at shown) } }

pub returns-clause-queue : goal.returns-clause-queue
returns-clause-queue g c =
    let q = c.take_due_at.ensures.front.queue in
    let shown = q.placed.shown in
    record { placed = record { members = q.placed.members; shown = search rules; placed = q.placed.placed }; sorted = q.sorted }

pub returns-clause-none_due : goal.returns-clause-none_due
returns-clause-none_due g c s shown =
    c.take_due_at.ensures.none_due s (rw (c.front_mut-cursor.ensures.borrows.3, c.front_mut-cursor.ensures.borrows.2) shown)

pub returns-clause-earliest : goal.returns-clause-earliest
returns-clause-earliest g c s shown =
    let q = c.requires.queue in
    let e = c.front_mut-cursor.ensures in
    let due = c.take_due_at.ensures.due s (rw (e.borrows.3, e.borrows.2) shown) in
    taken_earliest g.T.HasDeadline.deadline c.args.objects.now c.args.now s c.take_due_at.result due (rw (one_sequence q.placed.shown shown) at q.sorted)
