use Rattle.ic_rbtree.specs.Tree.{adapter_of}
use Rattle.ic_link_ops.proofs.RepresentedTrees.{one_sequence}
use Rattle.ic_plain.specs.SortedTrees.{IsInOrder}
use Rattle.ic_plain.proofs.KeyOrder.{found}
use Rattle.ic_plain.proofs.rbtree.find.Goals as goal

pub find-requires : goal.find-requires
unfolding IsInOrder
find-requires g c = record { placed = c.requires.sorted.placed }

pub returns : goal.returns
unfolding IsInOrder
returns g c = record {
  found = λ s shown.
      rw c.get_ptr.ensures (found g.met.K.Key.Ord.total (g.K.KeyAdapter.key_of (adapter_of c.args.tree.now)) (λ s u. one_sequence)
      c.args.objects.now c.requires.sorted c.args.key.now s shown (c.find.ensures.found s shown));
}
