use Rattle.ic_augmented.proofs.StepLemmas.{acquired_right}
use Rattle.ic_augmented.proofs.augmented.AugmentedLinkOps.acquire_link.Goals as goal

pub returns-clause-acquired : goal.returns-clause-acquired
returns-clause-acquired g c = record {
  links = c.if-not-acquire_link.ensures.acquired;
  right = acquired_right g.L.RBTreeOps.node (g.L.LinkOps.table c.args.self.now.links) (g.L.LinkOps.table c.acquire_link.new.self) c.acquire_link.ensures.frame.others c.invalidate_up.ensures.closed;
  marks = c.invalidate_up.ensures.consistent.marks;
  covers = c.invalidate_up.ensures.covers;
  join = c.invalidate_up.ensures.consistent.join;
}
