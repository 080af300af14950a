use Rattle.std.proofs.Common.{[], sym, ◌∙◌}
use Rattle.ic_link_ops.proofs.DoublyLists.{neighbors_covered}
use Rattle.ic_ring.proofs.RingWalks.{left_is}
use Rattle.ic_ring.proofs.ring.Ring.iter.Goals as goal

pub returns-clause-walks : goal.returns-clause-walks
returns-clause-walks g c s shown =
    let law = neighbors_covered g.L.LinkedListOps.neighbors g.L.LinkOps.table g.met.L.LinkOps.linked_is_covered g.met.L.LinkedListOps.linked_alike in
    left_is g.L.LinkedListOps.neighbors g.L.LinkOps.table g.O.Values.values law
    (record { links = c.args.links; objects = c.args.objects; of = record {}; front = c.next_of.result; end = c.head-2.result }) s (record {
      given = [];
      ring = rw c.head-2.ensures shown;
      starts = rw c.head-2.ensures (sym (rw c.head.ensures at c.next_of.ensures) ∙ shown.chain.0.next);
    })
