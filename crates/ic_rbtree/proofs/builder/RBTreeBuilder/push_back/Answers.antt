use Rattle.std.proofs.Common.{sym, subst}
use Rattle.ic_link_ops.specs.Chains.{list_head}
use Rattle.ic_rbtree.specs.Vines.{RepresentsVine}
use Rattle.ic_rbtree.proofs.Builders.{vine_acquired, pushed}
use Rattle.ic_rbtree.proofs.builder.RBTreeBuilder.push_back.Goals as goal

pub hang_after-requires-clause-shown : goal.hang_after-requires-clause-shown
hang_after-requires-clause-shown g c =
    let n = g.L.RBTreeOps.node in
    let alike = g.met.L.RBTreeOps.linked_alike in
    let l = g.met.L.LinkOps.does_replay _ _ _ c.if-not-acquire_link.ensures.acquired in
    let x = vine_acquired n g.L.LinkOps.linked alike c.requires.shown.1 l.was c.acquire_link.ensures.frame in
    (c.requires.shown.0, subst (λ o. RepresentsVine n (g.L.LinkOps.table c.acquire_link.new.self) (list_head c.args.self.now.front o) c.requires.shown.0) (sym c.get.ensures) x.1)

pub returns-clause-inserted : goal.returns-clause-inserted
returns-clause-inserted g c s x =
    let n = g.L.RBTreeOps.node in
    let alike = g.met.L.RBTreeOps.linked_alike in
    let l = g.met.L.LinkOps.does_replay _ _ _ c.if-not-acquire_link.ensures.acquired in
    let y = vine_acquired n g.L.LinkOps.linked alike x l.was c.acquire_link.ensures.frame in
    rw (c.of-self.ensures, ← c.place-place.ensures)
    (pushed n c.acquire_link.ensures.frame (c.hang_after.ensures.hung s (subst (λ o. RepresentsVine n (g.L.LinkOps.table c.acquire_link.new.self) (list_head c.args.self.now.front o) s) (sym c.get.ensures) y.1) y.0))
