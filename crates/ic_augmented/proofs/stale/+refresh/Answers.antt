use Rattle.std.proofs.Common.{Option, suc, ◌-◌, rules, arith, ap, sym, subst, ◌∙◌}
use Rattle.ic_unsafe_ref.specs.declared.place.Place.{Place}
use Rattle.ic_augmented.specs.Prelude.{is_fresh, IsConsistentTree, IsConsistentBelow, Refreshes}
use Rattle.ic_augmented.proofs.ConsistencyLemmas.{refreshes_fresh, refreshes_below, refreshes_more, refreshes_joined, tree_right}
use Rattle.ic_augmented.proofs.stale.+refresh.Goals as goal

pub refresh_below-returns-clause-refreshed : goal.refresh_below-returns-clause-refreshed
refresh_below-returns-clause-refreshed g t c u tree h e =
    refreshes_fresh _ _ c.args.upper c.in_ok-here.here tree c.args.turns (sym c.in_ok-here.was ∙ e) (ap is_fresh (sym c.adopt.ensures.summary ∙ c.in-Some.is)) c.in-Some.ensures.written

pub refresh_below-returns-in_default-clause-refreshed : goal.refresh_below-returns-in_default-clause-refreshed
refresh_below-returns-in_default-clause-refreshed g t c u tree h e =
    let w = g.M.Summaries.summaries c.refresh_at.new.summaries in
    subst (λ (m : g.row.M.Denot). Refreshes IsConsistentTree (g.M.Summaries.summaries m) w c.args.upper tree c.args.turns) c.in_default.ensures.kept
    (refreshes_below (g.M.Summaries.summaries c.adopt.new.self) w c.args.upper tree c.args.turns
    (subst (λ (o : Option Place). Refreshes IsConsistentBelow (g.M.Summaries.summaries c.adopt.new.self) w o tree c.args.turns) c.of.ensures (c.refresh_at.ensures.refreshed u tree h (sym c.in_ok-here.was ∙ e))))

pub refresh_at-returns-clause-refreshed : goal.refresh_at-returns-clause-refreshed
refresh_at-returns-clause-refreshed g t c u tree h e =
    let z = g.M.Summaries.summaries c.args.summaries.now in
    let w = g.M.Summaries.summaries c.recompute.new.summaries in
    refreshes_more z w c.args.upper tree c.args.turns (omega (arith, c.if-turns-eq0.false))
    (subst (λ (o : Option Place). Refreshes IsConsistentBelow z w o tree (suc (c.args.turns - 1))) c.get.ensures (c.recompute.ensures.refreshed u tree h e))

pub recompute-refresh_below-below_right-requires : goal.recompute-refresh_below-below_right-requires
recompute-refresh_below-below_right-requires g t c κs within =
    let r = c.requires.tree in
    let right = tree_right g.N.NodeStore.node (g.N.NodeStore.table c.args.links.now) r.0 c.args.here r.1 c.right-right.result r.2 r.3 c.right-right.ensures in
    search rules

pub recompute-returns-clause-refreshed : goal.recompute-returns-clause-refreshed
recompute-returns-clause-refreshed g t c u tree h e =
    refreshes_joined g.N.NodeStore.node (g.N.NodeStore.table c.args.links.now) _ _ _ _ c.args.upper u c.args.here tree _ _ _ _ c.args.turns h e
    c.left-left.ensures c.right-right.ensures c.refresh_below-below_left.ensures.refreshed c.refresh_below-below_right.ensures.refreshed
    c.refresh_below-below_left.ensures.summary c.refresh_below-below_right.ensures.summary c.write.ensures.written
