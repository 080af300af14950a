use Rattle.std.proofs.Common.{◌++◌}
use Rattle.ic_rbtree.specs.Tree.{adapter_of}
use Rattle.ic_link_ops.proofs.RepresentedTrees.{one_sequence}
use Rattle.ic_plain.specs.SortedTrees.{IsInOrder}
use Rattle.ic_plain.proofs.KeyOrder.{removed_in_order}
use Rattle.ic_plain.proofs.rbtree.remove.Goals as goal

pub returns-clause-sorted : goal.returns-clause-sorted
unfolding IsInOrder
returns-clause-sorted g c objects o =
    let e = c.remove.ensures in
    rw e.adapter (removed_in_order g.met.K.Key.Ord.total (g.K.KeyAdapter.key_of (adapter_of c.args.tree.now)) (λ s u. one_sequence)
    c.requires.member e.removed objects o)

pub returns-clause-shows : goal.returns-clause-shows
returns-clause-shows g c = let m = c.requires.member in (m.front ++ m.back, c.remove.ensures.removed m.front m.back m.shown)
