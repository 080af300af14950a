use Rattle.ic_rbtree.specs.Tree.{adapter_of}
use Rattle.ic_plain.specs.SortedTrees.{IsInOrder}
use Rattle.ic_plain.proofs.KeyOrder.{nothing_in_order}
use Rattle.ic_plain.proofs.rbtree.new.Goals as goal

pub returns-clause-sorted : goal.returns-clause-sorted
unfolding IsInOrder
returns-clause-sorted g c t objects = nothing_in_order (g.K.KeyAdapter.key_of (adapter_of c.new.result)) t objects c.new.ensures.empty
