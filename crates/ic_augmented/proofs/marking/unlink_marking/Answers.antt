use Rattle.std.proofs.Common.{rules}
use Rattle.ic_augmented.specs.Consistent.{IsConsistentBut}
use Rattle.ic_augmented.specs.Marking.{links_in, summaries_in, edge_in}
use Rattle.ic_augmented.proofs.marking.unlink_marking.Goals as goal

pub unlink_inside-requires-clause-closed : goal.unlink_inside-requires-clause-closed
unlink_inside-requires-clause-closed g c = rw c.new-marked.ensures.borrows.1 c.requires.closed

pub returns-clause-marked : goal.returns-clause-marked
returns-clause-marked g c = record {
  linked = search rules;
  keeps_links = search rules;
  consistent = λ s h.
      let n = g.N.NodeStore.node in
      let start : IsConsistentBut n (g.N.NodeStore.table (links_in c.new-marked.result)) (g.M.Summaries.summaries (summaries_in c.new-marked.result)) s (edge_in c.new-marked.result)
      = rw (c.new-marked.ensures.borrows.1, c.new-marked.ensures.edge) h in
      let done = c.unlink_inside.ensures.keeps_links.consistent s start in
      search rules;
  marks = search rules;
  inside = search rules;
  beside = search rules;
  join = search rules;
  covers = search rules;
}
