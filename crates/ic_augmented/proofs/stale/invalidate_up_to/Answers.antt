use Rattle.std.proofs.Common.{sym, ◌∙◌, Some}
use Rattle.ic_link_ops.proofs.Prelude.{some_same, is_end_yes}
use Rattle.ic_augmented.proofs.ConsistencyLemmas.{edge_there}
use Rattle.ic_augmented.proofs.stale.invalidate_up_to.Goals as goal

pub returns-then-is_at-clause-edge : goal.returns-then-is_at-clause-edge
returns-then-is_at-clause-edge g c = record {
  consistent = λ s h. edge_there g.N.NodeStore.node (g.N.NodeStore.table c.args._links.now) _ s c.in-Some.here c.args.place c.loop-from.from c.in-Some.is
      (some_same (is_end_yes (Some c.in-Some.here) c.args.place (sym c.is_at.ensures ∙ c.if-is_at.true))) (c.loop-from.invariant.consistent s h);
  marks = c.loop-from.invariant.marks;
  join = c.loop-from.invariant.join;
}
