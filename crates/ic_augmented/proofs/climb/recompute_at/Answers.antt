use Rattle.std.proofs.Common.{Option, subst}
use Rattle.ic_unsafe_ref.specs.declared.place.Place.{Place}
use Rattle.ic_augmented.specs.Consistent.{IsConsistentBelow, Refreshes}
use Rattle.ic_augmented.specs.Changes.{RecomputesAt}
use Rattle.ic_augmented.proofs.ChangeLemmas.{rejoined_at, recomputed_at}
use Rattle.ic_augmented.proofs.climb.recompute_at.Goals as goal

pub returns-in-Some-clause-recomputed : goal.returns-in-Some-clause-recomputed
returns-in-Some-clause-recomputed g c =
    rejoined_at g.N.NodeStore.node (g.N.NodeStore.table c.args.links.now) _ _ c.args.place c.args.from c.args.to _ _ c.args.upper c.in-Some.ensures.was c.in-Some.ensures.written c.in-Some.ensures.is

pub returns-clause-recomputed : goal.returns-clause-recomputed
returns-clause-recomputed g c =
    let n = g.N.NodeStore.node in
    let v = g.N.NodeStore.table c.args.links.now in
    let y = g.M.Summaries.summaries c.recompute_whole.new.summaries in
    subst (λ (m : g.row.M.Denot). RecomputesAt n v (g.M.Summaries.summaries m) y c.args.place c.args.from c.args.to c.args.upper) c.in_default.ensures.kept
    (recomputed_at n v (g.M.Summaries.summaries c.rejoin.new.self) y c.args.place c.args.from c.args.to c.args.upper
    (λ u t h e. subst (λ (o : Option Place). Refreshes IsConsistentBelow (g.M.Summaries.summaries c.rejoin.new.self) y o t 67) c.requires.upper (c.recompute_whole.ensures.refreshed u t h e)))
