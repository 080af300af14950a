use Rattle.std.proofs.Common.{refl, sym, ◌∙◌}
use Rattle.ic_augmented.proofs.ChangeLemmas.{climbed_ends, climbed_stale, climbed_same, climbed_edge}
use Rattle.ic_augmented.proofs.PathLemmas.{others_here, others_on}
use Rattle.ic_augmented.proofs.SubtreeLemmas.{subtree_parent, subtree_up}
use Rattle.ic_augmented.proofs.climb.climb_on.Goals as goal

pub returns-in_default-clause-consistent : goal.returns-in_default-clause-consistent
returns-in_default-clause-consistent g c =
    climbed_ends g.N.NodeStore.node (g.N.NodeStore.table c.args.links.now) (g.M.Summaries.summaries c.args.summaries.now) (g.M.Summaries.summaries c.recompute-is.new.summaries) c.args.edge c.args.edge c.recompute-is.result c.parent-upper.result (sym c.parent-upper.ensures)
    c.recompute-is.ensures.summary c.recompute-is.ensures.refreshed c.in_default.is

pub returns-in_default-was-clause-others : goal.returns-in_default-was-clause-others
returns-in_default-was-clause-others g c =
    others_here g.N.NodeStore.node (g.N.NodeStore.table c.args.links.now) (g.M.Summaries.summaries c.args.summaries.now) (g.M.Summaries.summaries c.recompute-is.new.summaries) c.args.edge c.parent-upper.result c.recompute-is.ensures.refreshed
    (λ fs u h e. c.parent-upper.ensures ∙ subtree_parent g.N.NodeStore.node (g.N.NodeStore.table c.args.links.now) fs u c.args.edge h e)

pub returns-in_default-was-clause-consistent : goal.returns-in_default-was-clause-consistent
returns-in_default-was-clause-consistent g c =
    climbed_stale g.N.NodeStore.node (g.N.NodeStore.table c.args.links.now) (g.M.Summaries.summaries c.args.summaries.now) (g.M.Summaries.summaries c.recompute-is.new.summaries) c.args.edge c.args.edge c.recompute-is.result c.parent-upper.result (sym c.parent-upper.ensures)
    c.recompute-is.ensures.summary c.recompute-is.ensures.refreshed refl (sym c.fresh-was.ensures ∙ c.in_default-was.is)

pub returns-then-is_same-clause-others : goal.returns-then-is_same-clause-others
returns-then-is_same-clause-others g c =
    others_here g.N.NodeStore.node (g.N.NodeStore.table c.args.links.now) (g.M.Summaries.summaries c.args.summaries.now) (g.M.Summaries.summaries c.recompute-is.new.summaries) c.args.edge c.parent-upper.result c.recompute-is.ensures.refreshed
    (λ fs u h e. c.parent-upper.ensures ∙ subtree_parent g.N.NodeStore.node (g.N.NodeStore.table c.args.links.now) fs u c.args.edge h e)

pub returns-then-is_same-clause-consistent : goal.returns-then-is_same-clause-consistent
returns-then-is_same-clause-consistent g c =
    climbed_same g.N.NodeStore.node (g.N.NodeStore.table c.args.links.now) (g.M.Summaries.summaries c.args.summaries.now) (g.M.Summaries.summaries c.recompute-is.new.summaries) c.args.edge c.args.edge c.recompute-is.result c.parent-upper.result (sym c.parent-upper.ensures)
    c.recompute-is.ensures.summary c.recompute-is.ensures.refreshed c.in-Some-was.was refl (sym c.fresh-was.ensures ∙ c.in-Some-was.is) (c.is_same.ensures c.if-is_same.true)

pub pass_on-requires-clause-subtree : goal.pass_on-requires-clause-subtree
pass_on-requires-clause-subtree g c =
    let n = g.N.NodeStore.node in
    let v = g.N.NodeStore.table c.args.links.now in
    let r = c.requires.subtree in
    subtree_up n v r.0 r.1 c.in-Some.above r.2 (sym (subtree_parent n v r.0 r.1 c.args.edge r.2 r.3) ∙ (sym c.parent-upper.ensures ∙ c.in-Some.is))

pub returns-clause-others : goal.returns-clause-others
returns-clause-others g c =
    others_on g.N.NodeStore.node (g.N.NodeStore.table c.args.links.now) (g.M.Summaries.summaries c.args.summaries.now) (g.M.Summaries.summaries c.recompute-is.new.summaries) c.args.edge c.parent-upper.result c.recompute-is.ensures.refreshed
    (λ fs u h e. c.parent-upper.ensures ∙ subtree_parent g.N.NodeStore.node (g.N.NodeStore.table c.args.links.now) fs u c.args.edge h e) (g.M.Summaries.summaries c.pass_on.new.summaries) c.in-Some.above c.in-Some.is c.pass_on.ensures.others

pub returns-clause-consistent : goal.returns-clause-consistent
returns-clause-consistent g c =
    climbed_edge g.N.NodeStore.node (g.N.NodeStore.table c.args.links.now) (g.M.Summaries.summaries c.args.summaries.now) (g.M.Summaries.summaries c.recompute-is.new.summaries) c.args.edge c.args.edge c.recompute-is.result c.parent-upper.result (sym c.parent-upper.ensures)
    c.recompute-is.ensures.summary c.recompute-is.ensures.refreshed (g.M.Summaries.summaries c.pass_on.new.summaries) c.in-Some.above c.in-Some-was.was refl (sym c.fresh-was.ensures ∙ c.in-Some-was.is) c.in-Some.is c.pass_on.ensures.consistent
