use Rattle.std.proofs.Common.{refl, ap}
use Rattle.ic_link_ops.specs.RedBlackTree.{Node}
use Rattle.ic_augmented.specs.MarkLaws.{marks_still, inside_still}
use Rattle.ic_augmented.proofs.ConsistencyLemmas.{edge_beside}
use Rattle.ic_augmented.proofs.marking.MarkingNodeStore.set_color.Goals as goal

pub returns-clause-keeps_links : goal.returns-clause-keeps_links
returns-clause-keeps_links g c = record {
  name = refl;
  keeps_links = c.set_color.ensures.keeps_links;
  consistent = λ s h. edge_beside g.N.NodeStore.node _ _ _ s c.args.place _ (ap (λ (x : Node). x.left) c.set_color.ensures.set) (ap (λ (x : Node). x.right) c.set_color.ensures.set) c.set_color.ensures.frame h;
  marks = marks_still _;
  beside = inside_still _ _ g.F.Fence.inside;
  covers = λ q h. h;
  join = refl;
}
