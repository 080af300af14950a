use Rattle.ic_augmented.proofs.StepLemmas.{set_stale}
use Rattle.ic_augmented.proofs.augmented.AugmentedRBTreeOps.set_right.Goals as goal

pub returns-clause-trace_stays : goal.returns-clause-trace_stays
returns-clause-trace_stays g c = record {
  links = c.set_right.ensures.trace_stays;
  right = set_stale g.L.RBTreeOps.node _ _ c.invalidate_up.ensures.stale c.invalidate_up.ensures.consistent c.set_right.ensures.frame;
  marks = c.invalidate_up.ensures.consistent.marks;
  covers = c.invalidate_up.ensures.covers;
  join = c.invalidate_up.ensures.consistent.join;
}
