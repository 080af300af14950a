use Rattle.std.proofs.Common.{IsSome, subst}
use Rattle.ic_rbtree.specs.Prelude.{Finds, compared}
use Rattle.ic_rbtree.specs.CursorMut.{position}
use Rattle.ic_rbtree.specs.Entry.{IfOccupied, IfVacant, IsVacantFor}
use Rattle.ic_rbtree.proofs.Sending.{same_order}
use Rattle.ic_rbtree.proofs.tree.RBTree.entry.Goals as goal

pub returns-clause-occupied : goal.returns-clause-occupied
returns-clause-occupied g c s h =
    subst (λ order. IfOccupied c.entry_by.result (λ cursor. Finds (compared order (g.O.Values.values c.args.objects.now)) s (position cursor) × IsSome (position cursor)))
    (same_order g.A.Key.Ord.cmp g.A.KeyAdapter.key_of c.new-probe.ensures.adapter c.new-probe.ensures.key) (c.entry_by.ensures.occupied s h)

pub returns-clause-vacant : goal.returns-clause-vacant
returns-clause-vacant g c s h =
    subst (λ order. IfVacant c.entry_by.result (λ v. IsVacantFor g.L.RBTreeOps.node (compared order (g.O.Values.values c.args.objects.now)) (g.L.LinkOps.table c.args.links.now) s v))
    (same_order g.A.Key.Ord.cmp g.A.KeyAdapter.key_of c.new-probe.ensures.adapter c.new-probe.ensures.key) (c.entry_by.ensures.vacant s h)
