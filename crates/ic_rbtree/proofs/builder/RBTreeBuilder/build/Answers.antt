use Rattle.std.proofs.Common.{arith}
use Rattle.ic_rbtree.proofs.Builders.{vine_walk, vine_short, whole_vine, built, built_lowest}
use Rattle.ic_rbtree.proofs.builder.RBTreeBuilder.build.Goals as goal

pub vine_length-count-requires : goal.vine_length-count-requires
vine_length-count-requires g c = rw c.get-first.ensures (c.requires.shown.0, vine_walk g.N.NodeStore.node c.requires.shown.1)

pub overflow_add-count : goal.overflow_add-count
overflow_add-count g c =
    let n = g.N.NodeStore.node in
    let x = c.requires.shown.1 in
    omega (arith, vine_short n x, c.vine_length-count.ensures c.requires.shown.0 (rw c.get-first.ensures (vine_walk n x)))

pub vine_to_tree-root-requires : goal.vine_to_tree-root-requires
vine_to_tree-root-requires g c =
    let n = g.N.NodeStore.node in
    let x = c.requires.shown.1 in
    let counted = c.vine_length-count.ensures c.requires.shown.0 (rw c.get-first.ensures (vine_walk n x)) in
    (c.requires.shown.0, _, whole_vine n x c.get-first.ensures counted c.ilog2.ensures.power_le c.ilog2.ensures.next_power_gt)

pub returns-clause-built : goal.returns-clause-built
returns-clause-built g c s x =
    let n = g.N.NodeStore.node in
    let counted = c.vine_length-count.ensures s (rw c.get-first.ensures (vine_walk n x)) in
    let grown = c.vine_to_tree-root.ensures.grown s _ (whole_vine n x c.get-first.ensures counted c.ilog2.ensures.power_le c.ilog2.ensures.next_power_gt) in
    rw c.from_root.ensures.root (built n x c.get-first.ensures counted c.ilog2.ensures.power_le c.ilog2.ensures.next_power_gt grown)

pub returns-clause-lowest : goal.returns-clause-lowest
returns-clause-lowest g c s h =
    let n = g.N.NodeStore.node in
    let x = c.requires.shown.1 in
    let counted = c.vine_length-count.ensures c.requires.shown.0 (rw c.get-first.ensures (vine_walk n x)) in
    built_lowest n (c.vine_to_tree-root.ensures.grown c.requires.shown.0 _ (whole_vine n x c.get-first.ensures counted c.ilog2.ensures.power_le c.ilog2.ensures.next_power_gt)) c.from_root.ensures.root h
