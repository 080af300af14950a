use Rattle.std.proofs.Common.{sym, ◌∙◌}
use Rattle.ic_link_ops.proofs.Walks.{is_end_yes}
use Rattle.ic_augmented.specs.MarkLaws.{marks_still}
use Rattle.ic_augmented.proofs.ConsistencyLemmas.{invalidated_up, marks_next}
use Rattle.ic_augmented.proofs.stale.move_edge.Goals as goal

pub returns-then-is_at-clause-edge : goal.returns-then-is_at-clause-edge
returns-then-is_at-clause-edge g c =
    let n = g.N.NodeStore.node in
    let v = g.N.NodeStore.table c.args.links.now in
    let z = g.M.Summaries.summaries c.args.summaries.now in
    let w = g.M.Summaries.summaries c.invalidate.new.self in
    let k = c.invalidate.ensures.invalidated in
    record {
      consistent = λ s h. invalidated_up n v z w s c.args.edge c.args.place k (sym c.upper.ensures ∙ is_end_yes c.upper.result c.args.place (sym c.is_at.ensures ∙ c.if-is_at.true)) h;
      marks = marks_next z z w c.args.edge k (marks_still z);
      join = k.join;
    }

pub returns-clause-beside : goal.returns-clause-beside
returns-clause-beside g c inside here i = (here, λ written. c.invalidate_up_to.ensures.beside inside written i)
