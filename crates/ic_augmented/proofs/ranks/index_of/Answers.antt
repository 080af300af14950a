use Rattle.std.proofs.Common.{refl}
use Rattle.ic_link_ops.specs.Trees.{fork}
use Rattle.ic_augmented.proofs.SubtreeLemmas.{member_subtree, subtree_linked}
use Rattle.ic_augmented.proofs.RankLemmas.{index_is}
use Rattle.ic_augmented.proofs.ranks.index_of.Goals as goal

pub count_before-before-requires : goal.count_before-before-requires
count_before-before-requires g c =
    let m = c.requires.1 in
    let x = member_subtree g.N.NodeStore.node (g.N.NodeStore.table c.args.summed.now.links) c.requires.0 m.front c.args.place m.back m.shown in
    (x.fs, fork x.c x.a c.args.place x.b, x.subtree, refl)

pub left-requires : goal.left-requires
left-requires g c =
    let m = c.requires.1 in
    let n = g.N.NodeStore.node in
    let v = g.N.NodeStore.table c.args.summed.now.links in
    let x = member_subtree n v c.requires.0 m.front c.args.place m.back m.shown in
    record { linked = subtree_linked n v x.fs (fork x.c x.a c.args.place x.b) c.args.place x.subtree refl }

pub returns : goal.returns
returns g c root front back h =
    index_is g.N.NodeStore.node (g.N.NodeStore.table c.args.summed.now.links) c.args.summed.now.summaries.cells.items root front c.args.place back _ _ _ _
    c.count_before-before.ensures c.left.ensures c.total.ensures c.saturating_add.ensures h
