use Rattle.std.proofs.Common.{subst, ◌∙◌}
use Rattle.ic_link_ops.specs.RedBlackTree.{Represents}
use Rattle.ic_augmented.specs.Prelude.{RepresentsAugmented, counts}
use Rattle.keyed_tests.proofs.Positions.{at_position, past_all, least_here, least_past}
use Rattle.keyed_tests.proofs.augmented.position_of_nth.Goals as goal

pub index_of-requires : goal.index_of-requires
index_of-requires g c =
    let q = c.requires.ready in
    let a = at_position q.members c.args.position (c.in-Some.ensures q.members q.shown) in
    (_, record { front = a.front; back = a.back; shown = subst (Represents g.N.NodeStore.node (g.N.NodeStore.table c.args.summed.now.links) _) a.same q.shown.shows })

pub nth-requires : goal.nth-requires
nth-requires g c = (c.requires.ready.members, c.requires.ready.shown)

pub returns-in-Some : goal.returns-in-Some
returns-in-Some g c = record {
  least = λ s shown.
      let a = at_position s c.args.position (c.in-Some.ensures s shown) in
      c.index_of.ensures _ a.front a.back (subst (RepresentsAugmented g.N.NodeStore.node (counts c.args.summed.now.summaries) (g.N.NodeStore.table c.args.summed.now.links) _) a.same shown)
      ∙ (a.position ∙ least_here s c.args.position a);
}

pub returns-in-None : goal.returns-in-None
returns-in-None g c = record { least = λ s shown. least_past s c.args.position _ (past_all s c.args.position (c.in-None.ensures s shown)) (c.len.ensures s shown) }
