use Rattle.std.proofs.Common.{refl, subst}
use Rattle.ic_augmented.proofs.ConsistencyLemmas.{edge_rewritten}
use Rattle.ic_augmented.proofs.FenceLemmas.{and_left}
use Rattle.ic_augmented.proofs.marking.MarkingNodeStore.set_left.Goals as goal

pub returns-clause-keeps_links : goal.returns-clause-keeps_links
returns-clause-keeps_links g c = record {
  name = refl;
  keeps_links = subst (λ (m : g.row.N.Denot). g.N.NodeStore.KeepsLinks m c.set_left.new.self) c.invalidate_in-self.ensures.links c.set_left.ensures.keeps_links;
  consistent = λ s h. edge_rewritten g.N.NodeStore.node _ _ _ s c.args.place _ c.invalidate_in-self.ensures.writable c.set_left.ensures.frame (c.invalidate_in-self.ensures.edge.consistent s h);
  marks = c.invalidate_in-self.ensures.edge.marks;
  beside = c.invalidate_in-self.ensures.beside g.F.Fence.inside (and_left _ _ c.requires.linked);
  covers = c.invalidate_in-self.ensures.covers;
  join = c.invalidate_in-self.ensures.edge.join;
}
