use Rattle.ic_augmented.proofs.StepLemmas.{changed_right}
use Rattle.ic_augmented.proofs.augmented.AugmentedLinkValues.set_value.Goals as goal

pub returns-clause-trace_stays : goal.returns-clause-trace_stays
returns-clause-trace_stays g c = record {
  links = c.set_value.ensures.trace_stays;
  right = changed_right g.L.RBTreeOps.node (g.L.LinkOps.table c.args.self.now.links) (g.L.LinkOps.table c.set_value.new.self) c.set_value.ensures.others c.invalidate_up.ensures.closed;
  marks = c.invalidate_up.ensures.consistent.marks;
  covers = c.invalidate_up.ensures.covers;
  join = c.invalidate_up.ensures.consistent.join;
}
