use Rattle.std.proofs.Common.{◌∷◌, None}
use Rattle.ic_rbtree.specs.Pieces.{loose}
use Rattle.ic_rbtree.proofs.Closed.{in_only, in_parent, in_linked}
use Rattle.ic_rbtree.proofs.Transplants.{without, taken_out}
use Rattle.ic_rbtree.proofs.repair.removal.splice_out.Goals as goal

pub side_below-side-requires : goal.side_below-side-requires
side_below-side-requires g c =
    let n = g.N.NodeStore.node in
    let r = c.requires in
    in_linked n r.1 (in_parent n r.1 c.args.place r.2.0 c.parent-parent.ensures)

pub change_child-requires : goal.change_child-requires
change_child-requires g c =
    let n = g.N.NodeStore.node in
    let r = c.requires in
    record {
      parent = in_linked n r.1 (in_parent n r.1 c.args.place r.2.0 c.parent-parent.ensures);
      named = in_linked n r.1 (in_only n r.1 c.args.place r.2.0 c.only_child-child.ensures);
    }

pub fill_gap-short-requires : goal.fill_gap-short-requires
fill_gap-short-requires g c =
    let n = g.N.NodeStore.node in
    let r = c.requires in
    let child = in_only n r.1 c.args.place r.2.0 c.only_child-child.ensures in
    let h = c.change_child.ensures.safe None r.0 r.1 (child, tt) in
    record { child = in_linked n h child; parent = in_linked n h (in_parent n r.1 c.args.place r.2.0 c.parent-parent.ensures) }

pub returns-clause-taken : goal.returns-clause-taken
returns-clause-taken g c base fs x ps s lone right =
    let n = g.N.NodeStore.node in
    c.fill_gap-short.ensures.filled c.change_child.new.root c.side_below-side.result (without n base fs x (loose c.args.place ∷ ps))
    (taken_out n c.args.root.now c.change_child.new.root _ _ _ _ fs x c.args.place ps c.only_child-child.ensures c.parent-parent.ensures c.color-color.ensures c.side_below-side.ensures
    c.change_child.ensures.moved s lone right)

pub returns-clause-safe : goal.returns-clause-safe
returns-clause-safe g c S h i =
    let n = g.N.NodeStore.node in
    let child = in_only n h c.args.place i.0 c.only_child-child.ensures in
    let up = in_parent n h c.args.place i.0 c.parent-parent.ensures in
    (c.fill_gap-short.ensures.safe c.change_child.new.root None S (c.change_child.ensures.safe None S h (child, tt)) (up, tt), (up, tt))
