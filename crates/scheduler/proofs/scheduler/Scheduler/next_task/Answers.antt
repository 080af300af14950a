use Rattle.std.proofs.Common.{rules, arith}
use Rattle.ic_link_ops.proofs.PlacedValues.{placed_first}
use Rattle.ic_link_ops.proofs.TwoFields.{unlinked_first}
use Rattle.scheduler.proofs.Keeping.{queue_empty, kept_taken, takes_front}
use Rattle.scheduler.proofs.scheduler.Scheduler.next_task.Goals as goal

pub dequeue-requires : goal.dequeue-requires
dequeue-requires g c =
    (omega arith, (c.self.invariant.numbered.members c.args.queue, (c.self.invariant.numbered.each c.args.queue).shown))

pub returns-in_err-object-clause-none : goal.returns-in_err-object-clause-none
returns-in_err-object-clause-none g c =
    let k = c.self.invariant in
    let e = c.in_err-object.ensures in
    let empty = queue_empty k c.args.queue (e.answer (k.numbered.members c.args.queue) (k.numbered.each c.args.queue).shown) in
    rw (c.from_residual.ensures, ← c.self.view_is, e.none.0, e.none.1) (empty, search rules)

pub remove-task-requires : goal.remove-task-requires
remove-task-requires g c =
    let q = c.self.invariant.numbered in
    let e = c.in_ok-object.ensures in
    record {
      placed = placed_first c.self.inside.pool.objects c.in_ok-object.object (q.members c.args.queue) (e.answer (q.members c.args.queue) (q.each c.args.queue).shown) (q.each c.args.queue).stand.placed;
      free = (e.released.is, unlinked_first c.self.invariant.once c.in_ok-object.object e.released.was);
    }

pub invariant_of-self-2 : goal.invariant_of-self-2
invariant_of-self-2 g c =
    let k = c.self.invariant.numbered in
    let e = c.in_ok-object.ensures in
    let out = c.remove-task.ensures in
    rw out.links (kept_taken c.self.invariant (e.answer (k.members c.args.queue) (k.each c.args.queue).shown) out.value _ c.dequeue.new.links c.dequeue.new.queues e.popped e.others e.released e.frame out.freed)

pub returns-clause-taken : goal.returns-clause-taken
returns-clause-taken g c =
    let k = c.self.invariant.numbered in
    let e = c.in_ok-object.ensures in
    let out = c.remove-task.ensures in
    rw (← c.self.view_is, out.links)
    (takes_front c.self.invariant (e.answer (k.members c.args.queue) (k.each c.args.queue).shown) out.value c.remove-task.new.self.objects c.dequeue.new.links c.dequeue.new.queues e.popped e.others e.released e.frame out.freed)
