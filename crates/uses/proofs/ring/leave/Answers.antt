use Rattle.std.proofs.lemmas.Cmp.{nat_cmp_total}
use Rattle.ic_link_ops.specs.Positions.{RepresentsAt}
use Rattle.ic_link_ops.specs.RedBlackTree.{Represents}
use Rattle.ic_link_ops.proofs.RepresentedTrees.{one_sequence}
use Rattle.ic_rbtree.specs.CursorOwning.{site_of}
use Rattle.ic_rbtree.specs.SortedObjects.{RepresentsSorted}
use Rattle.ic_rbtree.proofs.SortedAnswers.{found_first}
use Rattle.ic_rbtree.proofs.SortedKeys.{represented_sorted, sorted_taken}
use Rattle.uses.specs.Ring.{point}
use Rattle.uses.proofs.ring.leave.Goals as goal

pub returns-clause-ring : goal.returns-clause-ring
returns-clause-ring g c =
    let e = c.find_owning-hand.ensures in
    let at : RepresentsSorted point (RepresentsAt (Represents g.L.RBTreeOps.node) g.L.LinkOps.table (site_of c.args.links.now c.find_owning-hand.result)) c.args.objects.now = rw e.tree c.requires.ring in
    sorted_taken point c.args.objects.now (λ s u shown other. one_sequence shown other) e.stands c.remove-node.result c.remove-node.ensures.removed at

pub returns-clause-left : goal.returns-clause-left
returns-clause-left g c s shown =
    let t = represented_sorted point c.args.objects.now (λ s u shown other. one_sequence shown other) c.requires.ring shown in
    let e = c.find_owning-hand.ensures in
    let found = found_first nat_cmp_total (λ adapter. point) c.args.ring.adapter c.args.objects.now t.0 t.1 c.args.hash (e.found s shown) in
    rw (← found, ← e.tree) c.remove-node.ensures.removed
