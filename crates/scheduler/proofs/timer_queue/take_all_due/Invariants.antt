use Rattle.std.proofs.Common.{◌≤◌, List, length, vec_capacity}
use Rattle.ic_unsafe_ref.specs.declared.place.Place.{Place}
use Rattle.ic_link_ops.specs.RedBlackTree.{Represents}
use Rattle.ic_rbtree.specs.Prelude.{members, root_of}
use Rattle.ic_rbtree.specs.CursorMut.{tree_of, links_of, site_of, SameBorrows}
use Rattle.scheduler.specs.Timers.{IsAtFront}
use Rattle.scheduler.proofs.TimersDue.{Takes}
use Rattle.scheduler.proofs.timer_queue.take_all_due.Given as goal

abbrev pub invariant-loop-timer : goal.invariant-loop-timer
invariant-loop-timer g l = record {
  borrows : SameBorrows l.initial.cursor l.cursor;
  front : IsAtFront g.T.HasDeadline.deadline g.L.RBTreeOps.node g.L.LinkOps.table l.objects (site_of l.cursor);
  takes : (s : List Place) → Represents g.L.RBTreeOps.node (g.L.LinkOps.table l.fn.links) (root_of l.fn.timers) s
      → Takes g.T.HasDeadline.deadline g.L.RBTreeOps.node g.L.LinkOps.table g.L.LinkOps.Trace l.objects l.now l.fn.links s l.fn.due.items (links_of l.cursor) (root_of (tree_of l.cursor)) l.due.items;
  room : vec_capacity l.fn.due ≤ vec_capacity l.due;
}

abbrev pub decreases-loop-timer : goal.decreases-loop-timer
decreases-loop-timer g l = length (members g.L.RBTreeOps.node (g.L.LinkOps.table (links_of l.cursor)) (root_of (tree_of l.cursor)))
