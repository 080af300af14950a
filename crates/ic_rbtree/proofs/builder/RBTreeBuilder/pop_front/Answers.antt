use Rattle.std.proofs.Common.{sym, ◌∙◌}
use Rattle.ic_rbtree.proofs.Builders.{front_taken}
use Rattle.ic_rbtree.proofs.builder.RBTreeBuilder.pop_front.Goals as goal

pub returns-clause-removed : goal.returns-clause-removed
returns-clause-removed g c s x =
    let is = sym c.get.ensures ∙ c.in_ok-front.was in
    rw (c.of-self.ensures, c.of-self-2.ensures, c.end_beyond-last.ensures, c.get-2.ensures)
    (front_taken g.L.RBTreeOps.node s x is c.child-next.ensures c.release_link.ensures.frame)
