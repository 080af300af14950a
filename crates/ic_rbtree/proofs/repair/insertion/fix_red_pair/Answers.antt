use Rattle.std.proofs.Common.{sym, ◌∙◌, subst}
use Rattle.ic_link_ops.specs.declared.side.Side.{Side}
use Rattle.ic_rbtree.specs.Insertion.{FixesRedPairOn}
use Rattle.ic_rbtree.proofs.RedPairs.{pair_side}
use Rattle.ic_rbtree.proofs.repair.insertion.fix_red_pair.Goals as goal

pub side_of-requires : goal.side_of-requires
side_of-requires g c = let r = c.requires in r.1.linked c.args.grand r.2.1.1.0

pub returns-in-Left-clause-fixed : goal.returns-in-Left-clause-fixed
returns-in-Left-clause-fixed g c i m k h =
    let n = g.N.NodeStore.node in
    let same = sym c.in-Left.is ∙ pair_side n h c.side_of.result c.side_of.ensures in
    subst (λ (z : Side). FixesRedPairOn n (g.N.NodeStore.table c.args.links.now) (g.N.NodeStore.table c.fix_red_pair_on.new.links) c.args.root.now c.fix_red_pair_on.new.root
    c.args.place c.args.parent c.args.grand z c.fix_red_pair_on.result) same c.fix_red_pair_on.ensures.fixed m k h

pub returns-in-Right-clause-fixed : goal.returns-in-Right-clause-fixed
returns-in-Right-clause-fixed g c i m k h =
    let n = g.N.NodeStore.node in
    let same = sym c.in-Right.is ∙ pair_side n h c.side_of.result c.side_of.ensures in
    subst (λ (z : Side). FixesRedPairOn n (g.N.NodeStore.table c.args.links.now) (g.N.NodeStore.table c.fix_red_pair_on-in-Right.new.links) c.args.root.now c.fix_red_pair_on-in-Right.new.root
    c.args.place c.args.parent c.args.grand z c.fix_red_pair_on-in-Right.result) same c.fix_red_pair_on-in-Right.ensures.fixed m k h
