use Rattle.ic_link_ops.specs.Sequences.{at_front}
use Rattle.ic_link_ops.proofs.Prelude.{stands_first, one_sequence}
use Rattle.ic_rbtree.proofs.SortedKeys.{sorted_taken}
use Rattle.scheduler.proofs.TimersDue.{first_again, all_wait}
use Rattle.scheduler.proofs.timer_queue.take_due_at.Goals as goal

pub remove-requires : goal.remove-requires
remove-requires g c =
    let f = c.requires.front in
    let s = f.queue.placed in
    record { stands = stands_first s.members s.shown (f.first_is s.members s.shown) }

pub returns-then-not-is_due-clause-none_due : goal.returns-then-not-is_due-clause-none_due
returns-then-not-is_due-clause-none_due g c s shown =
    let q = c.requires.front.queue in
    let same = one_sequence q.placed.shown shown in
    let there = rw (c.requires.front.first_is s shown) at c.get.ensures in
    all_wait g.T.HasDeadline.deadline c.args.objects.now c.args.now s c.is_due.ensures there c.if-not-is_due.true (rw same at q.placed.placed) (rw same at q.sorted)

pub returns-clause-front : goal.returns-clause-front
returns-clause-front g c =
    let f = c.requires.front in
    let s = f.queue.placed in
    let is = f.first_is s.members s.shown in
    record {
      queue = sorted_taken g.T.HasDeadline.deadline c.args.objects.now (λ s u shown other. one_sequence shown other) (stands_first s.members s.shown is) c.remove.result c.remove.ensures.removed f.queue;
      first_is = first_again s.shown is c.remove.result c.remove.ensures.removed;
    }

pub returns-clause-taken : goal.returns-clause-taken
returns-clause-taken g c s shown = c.remove.ensures.removed.removed (at_front s) shown (c.requires.front.first_is s shown)
