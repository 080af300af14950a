use Rattle.ic_augmented.proofs.StepLemmas.{changed_right}
use Rattle.ic_augmented.proofs.augmented.AugmentedLinkOps.release_link.Goals as goal

pub returns-clause-released : goal.returns-clause-released
returns-clause-released g c = record {
  links = c.release_link.ensures.released;
  right = changed_right g.L.RBTreeOps.node (g.L.LinkOps.table c.args.self.now.links) (g.L.LinkOps.table c.release_link.new.self) c.release_link.ensures.frame.others c.invalidate_up.ensures.closed;
  marks = c.invalidate_up.ensures.consistent.marks;
  covers = c.invalidate_up.ensures.covers;
  join = c.invalidate_up.ensures.consistent.join;
}
