use Rattle.std.proofs.Common.{sym, ap, ◌∙◌}
use Rattle.ic_link_ops.specs.Sequences.{first}
use Rattle.ic_rbtree.proofs.Walking.{walk_members}
use Rattle.ic_rbtree.proofs.iter.Iter.get_ptr.Goals as goal

pub returns : goal.returns
returns g c =
    let k = c.requires.can_walk in
    let t = c.args.self.now.links.now in
    k.1.starts
    ∙ ap first (sym (walk_members g.L.RBTreeOps.node (g.L.LinkOps.table t) (λ q e. g.met.L.LinkOps.linked_is_covered t q (sym (g.met.L.RBTreeOps.linked_alike _) ∙ e)) k.1))
