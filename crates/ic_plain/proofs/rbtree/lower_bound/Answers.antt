use Rattle.ic_rbtree.specs.Tree.{adapter_of}
use Rattle.ic_link_ops.proofs.RepresentedTrees.{one_sequence}
use Rattle.ic_plain.specs.SortedTrees.{IsInOrder}
use Rattle.ic_plain.proofs.KeyOrder.{bounded}
use Rattle.ic_plain.proofs.rbtree.lower_bound.Goals as goal

pub lower_bound-requires : goal.lower_bound-requires
unfolding IsInOrder
lower_bound-requires g c = record { placed = c.requires.sorted.placed }

pub returns : goal.returns
unfolding IsInOrder
returns g c = record {
  found = λ s shown.
      rw c.get_ptr.ensures (bounded g.met.K.Key.Ord.total (g.K.KeyAdapter.key_of (adapter_of c.args.tree.now)) (λ s u. one_sequence)
      c.args.objects.now c.requires.sorted c.args.key.now s shown (c.lower_bound.ensures.border s shown));
}
