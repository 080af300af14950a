use Rattle.std.proofs.Common.{rules, sym, ◌∙◌}
use Rattle.ic_augmented.proofs.PathLemmas.{path_on, others_on}
use Rattle.ic_augmented.proofs.SubtreeLemmas.{subtree_parent, subtree_up}
use Rattle.ic_augmented.proofs.stale.+refresh_path.Goals as goal

pub refresh_path-requires : goal.refresh_path-requires
refresh_path-requires g t c κs within =
    let n = g.N.NodeStore.node in
    let v = g.N.NodeStore.table c.args.links.now in
    let r = c.requires.subtree in
    let up = subtree_up n v r.0 r.1 c.in-Some.above r.2 (sym (subtree_parent n v r.0 r.1 c.args.place r.2 r.3) ∙ (sym c.parent-upper.ensures ∙ c.in-Some.is)) in
    search rules

pub returns-clause-summed : goal.returns-clause-summed
returns-clause-summed g t c =
    let n = g.N.NodeStore.node in
    let v = g.N.NodeStore.table c.args.links.now in
    path_on n v (g.M.Summaries.summaries c.args.summaries.now) (g.M.Summaries.summaries c.recompute.new.summaries) c.args.place c.parent-upper.result c.recompute.ensures.refreshed
    (λ fs u h e. c.parent-upper.ensures ∙ subtree_parent n v fs u c.args.place h e) (g.M.Summaries.summaries c.refresh_path.new.summaries) c.in-Some.above c.args.turns c.in-Some.is c.refresh_path.ensures.summed

pub returns-clause-others : goal.returns-clause-others
returns-clause-others g t c =
    let n = g.N.NodeStore.node in
    let v = g.N.NodeStore.table c.args.links.now in
    others_on n v (g.M.Summaries.summaries c.args.summaries.now) (g.M.Summaries.summaries c.recompute.new.summaries) c.args.place c.parent-upper.result c.recompute.ensures.refreshed
    (λ fs u h e. c.parent-upper.ensures ∙ subtree_parent n v fs u c.args.place h e) (g.M.Summaries.summaries c.refresh_path.new.summaries) c.in-Some.above c.in-Some.is c.refresh_path.ensures.others
