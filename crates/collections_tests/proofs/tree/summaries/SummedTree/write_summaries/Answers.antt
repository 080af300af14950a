use Rattle.ic_rbtree.proofs.KeptHeads.{shown}
use Rattle.collections_tests.proofs.Ready.{linked_room}
use Rattle.collections_tests.proofs.tree.summaries.SummedTree.write_summaries.Goals as goal

pub refresh-requires : goal.refresh-requires
refresh-requires g c =
    let q = c.self.invariant.ready in
    let kept = g.E.TreeHead.kept in
    record {
      shown = (q.members, shown (kept c.self.inside.tree.head) q.shown);
      covered = linked_room kept g.L.LinkOps.linked g.met.L.RBTreeOps.linked_alike g.met.L.LinkOps.linked_is_covered q;
    }

pub note-requires : goal.note-requires
note-requires g c =
    let q = c.self.invariant.ready in
    record { shown = (q.members, c.refresh.ensures.summed q.members (shown (g.E.TreeHead.kept c.self.inside.tree.head) q.shown, q.right)) }

pub invariant_of-self : goal.invariant_of-self
invariant_of-self g c =
    let q = c.self.invariant.ready in
    let e = c.refresh.ensures in
    let right = e.consistent q.members (shown (g.E.TreeHead.kept c.self.inside.tree.head) q.shown, q.right) in
    record {
      placed = c.self.invariant.placed;
      ready = record {
        covers = rw e.links q.covers;
        members = q.members;
        shown = rw e.links q.shown;
        right = right.1;
        room = λ p covered. e.covers p (q.room p (rw e.links at covered));
      };
    }
