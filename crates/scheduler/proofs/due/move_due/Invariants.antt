use Rattle.std.proofs.Common.{◌≡◌, ◌<◌, ◌≤◌, List, length}
use Rattle.ic_link_ops.specs.Prelude.{Place, first}
use Rattle.ic_rbtree.specs.CursorMut.{tree_of, links_of, position, SameBorrows}
use Rattle.ic_rbtree.specs.Prelude.{PlainRepresents, root_of}
use Rattle.scheduler.specs.Kept.{schedule_of, IsKept}
use Rattle.scheduler.proofs.Ticking.{Moved}
use Rattle.scheduler.proofs.due.move_due.Given as goal

abbrev pub invariant-loop-moved : goal.invariant-loop-moved
invariant-loop-moved g l = record {
  borrows : SameBorrows l.initial.cursor l.cursor;
  kept : IsKept l.objects (links_of l.cursor) (root_of (tree_of l.cursor)) l.queue_links l.queues;
  first_is : (s : List Place) → PlainRepresents (links_of l.cursor) (root_of (tree_of l.cursor)) s → position l.cursor ≡ first s;
  moved : Moved l.now (schedule_of l.objects l.fn.deadline_links (root_of l.fn.deadlines) l.fn.queue_links l.fn.queues)
      (schedule_of l.objects (links_of l.cursor) (root_of (tree_of l.cursor)) l.queue_links l.queues) l.moved;
  few : 0 < l.moved → length (schedule_of l.objects l.fn.deadline_links (root_of l.fn.deadlines) l.fn.queue_links l.fn.queues).waiting ≤ 8589934591;
}

abbrev pub decreases-loop-moved : goal.decreases-loop-moved
decreases-loop-moved g l = length (schedule_of l.objects (links_of l.cursor) (root_of (tree_of l.cursor)) l.queue_links l.queues).waiting
