use Rattle.std.proofs.Common.{rules}
use Rattle.ic_augmented.specs.Consistent.{IsConsistentBut}
use Rattle.ic_augmented.specs.Marking.{links_in, summaries_in, edge_in}
use Rattle.ic_augmented.proofs.ConsistencyLemmas.{invalidated_starts}
use Rattle.ic_augmented.proofs.marking.attach_marking.Goals as goal

pub attach_inside-requires-clause-closed : goal.attach_inside-requires-clause-closed
attach_inside-requires-clause-closed g c = rw c.new-marking.ensures.borrows.1 c.requires.closed

pub returns-clause-marked : goal.returns-clause-marked
returns-clause-marked g c = record {
  linked = search rules;
  keeps_links = search rules;
  consistent = λ s h.
      let n = g.N.NodeStore.node in
      let start : IsConsistentBut n (g.N.NodeStore.table (links_in c.new-marking.result)) (g.M.Summaries.summaries (summaries_in c.new-marking.result)) s (edge_in c.new-marking.result)
      = rw (c.new-marking.ensures.borrows.1, c.new-marking.ensures.edge) (invalidated_starts n (g.N.NodeStore.table c.args.summed.now.links) (g.M.Summaries.summaries c.args.summed.now.summaries) s c.args.parent h) in
      let done = c.attach_inside.ensures.keeps_links.consistent s start in
      search rules;
  marks = search rules;
  inside = search rules;
  beside = search rules;
  join = search rules;
  covers = search rules;
}
