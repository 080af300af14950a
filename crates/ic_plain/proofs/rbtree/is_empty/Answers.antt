use Rattle.std.proofs.Common.{Option, subst}
use Rattle.ic_unsafe_ref.specs.declared.place.Place.{Place}
use Rattle.ic_link_ops.specs.RedBlackTree.{Represents}
use Rattle.ic_rbtree.specs.Tree.{root_of}
use Rattle.ic_link_ops.proofs.RepresentedTrees.{no_root, no_members}
use Rattle.ic_plain.proofs.rbtree.is_empty.Goals as goal

pub returns : goal.returns
returns g c = record {
  empty = λ s shown. (
    λ yes. no_root (subst (λ (root : Option Place). Represents g.L.RBTreeOps.node (g.L.LinkOps.table c.args.links.now) root s) (c.is_empty.ensures.0 yes) shown),
    λ none. c.is_empty.ensures.1 (no_members (subst (Represents g.L.RBTreeOps.node (g.L.LinkOps.table c.args.links.now) (root_of c.args.tree.now)) none shown)),
  );
}
