use Rattle.std.proofs.Common.{refl, ap}
use Rattle.ic_link_ops.specs.RedBlackTree.{Node}
use Rattle.ic_augmented.specs.MarkLaws.{marks_still}
use Rattle.ic_augmented.proofs.StepLemmas.{set_beside}
use Rattle.ic_augmented.proofs.augmented.AugmentedRBTreeOps.set_parent_and_color.Goals as goal

pub returns-clause-trace_stays : goal.returns-clause-trace_stays
returns-clause-trace_stays g c = record {
  links = c.set_parent_and_color.ensures.trace_stays;
  right = set_beside g.L.RBTreeOps.node _ _ _ (ap (λ (x : Node). x.left) c.set_parent_and_color.ensures.set) (ap (λ (x : Node). x.right) c.set_parent_and_color.ensures.set) c.set_parent_and_color.ensures.frame;
  marks = marks_still _;
  covers = λ q h. h;
  join = refl;
}
