use Rattle.std.proofs.Common.{arith}
use Rattle.ic_link_ops.proofs.SequenceLemmas.{disjoint_sym}
use Rattle.ic_tree_merges.proofs.MergedTrees.{swapped, tree_still, added_apart, can_merge, united_trees, doubles_lowest, few_added}
use Rattle.ic_tree_merges.proofs.parting.union.Goals as goal

pub part-doubles-requires : goal.part-doubles-requires
part-doubles-requires g c = record { two = swapped c.requires.two }

pub merge-requires : goal.merge-requires
merge-requires g c =
    let two = c.requires.two in
    let m = c.part-doubles.ensures.parted two.second two.first two.other two.shown (disjoint_sym two.first two.second two.apart) in
    record { two = can_merge two.shown two.apart m (g.O.Values.values c.args.objects.now) two.placed two.other_placed }

pub returns-clause-united : goal.returns-clause-united
returns-clause-united g c s u shown other apart =
    let m = c.part-doubles.ensures.parted u s other shown (disjoint_sym s u apart) in
    united_trees shown apart m (rw c.part-doubles.ensures.same at (c.merge.ensures.merged s m.rest (tree_still shown apart m) m.rest_represented (added_apart shown apart m)))

pub returns-clause-lowest : goal.returns-clause-lowest
returns-clause-lowest g c =
    let two = c.requires.two in
    let m = c.part-doubles.ensures.parted two.second two.first two.other two.shown (disjoint_sym two.first two.second two.apart) in
    let merged = rw c.part-doubles.ensures.same at (c.merge.ensures.merged two.first m.rest (tree_still two.shown two.apart m) m.rest_represented (added_apart two.shown two.apart m)) in
    (c.merge.ensures.lowest, doubles_lowest two.shown two.apart m merged c.part-doubles.ensures.lowest.0)

pub returns-clause-few : goal.returns-clause-few
returns-clause-few g c s u shown other apart =
    let m = c.part-doubles.ensures.parted u s other shown (disjoint_sym s u apart) in
    omega (arith, c.part-doubles.ensures.few u s other shown (disjoint_sym s u apart), c.merge.ensures.few s m.rest (tree_still shown apart m) m.rest_represented (added_apart shown apart m), few_added shown apart m)

pub returns-clause-keeps_links : goal.returns-clause-keeps_links
returns-clause-keeps_links g c = g.met.N.NodeStore.keeps_links_on _ _ _ c.part-doubles.ensures.keeps_links c.merge.ensures.keeps_links
