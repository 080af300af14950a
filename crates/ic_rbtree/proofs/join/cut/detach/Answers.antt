use Rattle.std.proofs.Common.{◌+◌, ◌-◌, refl, sym, ap, arith}
use Rattle.ic_link_ops.specs.RedBlackTree.{node_at}
use Rattle.ic_rbtree.proofs.Cuts.{detaches_none, detaches_some}
use Rattle.ic_rbtree.proofs.Spine.{weight_small}
use Rattle.ic_rbtree.proofs.join.cut.detach.Goals as goal

pub returns-in_default-clause-detached : goal.returns-in_default-clause-detached
returns-in_default-clause-detached g c = detaches_none g.N.NodeStore.node c.args.child c.in_default.is refl refl

pub overflow_sub-result : goal.overflow_sub-result
overflow_sub-result g c = omega (arith, c.weight_of-weight.ensures, weight_small (node_at g.N.NodeStore.node (g.N.NodeStore.table c.args.links.now) c.in-Some.place).color)

pub returns-clause-detached : goal.returns-clause-detached
returns-clause-detached g c =
    detaches_some g.N.NodeStore.node c.in-Some.place c.args.child c.in-Some.is (sym c.in-Some.is) (ap (λ w. c.args.height + 1 - w) c.weight_of-weight.ensures) c.set_parent_and_color.ensures.set c.set_parent_and_color.ensures.frame
