use Rattle.std.proofs.Common.{Option, sym, subst}
use Rattle.ic_link_ops.specs.Prelude.{Place, Inserts}
use Rattle.ic_link_ops.specs.RedBlackTree.{Represents}
use Rattle.ic_rbtree.specs.Kept.{root_kept, RepresentsKept}
use Rattle.ic_rbtree.proofs.Attaching.{inserts}
use Rattle.ic_rbtree.proofs.KeptHeads.{printed, inserts_kept, parts_root}
use Rattle.ic_rbtree.proofs.Pairs.{can_join, joinable, joinable_pair, joined}
use Rattle.ic_rbtree.proofs.tree.RBTree.join.Goals as goal

pub join-root-requires : goal.join-root-requires
join-root-requires g c =
    let n = g.L.RBTreeOps.node in
    let l = g.met.L.LinkOps.does_replay _ _ _ c.if-not-acquire_link.ensures.acquired in
    let x = can_join n g.L.LinkOps.linked g.met.L.RBTreeOps.linked_alike l.was l.is c.acquire_link.ensures.frame (parts_root g.E.TreeHead.kept c.requires.shown.1) in
    (joinable n x, joinable_pair n x c.root.ensures c.root-2.ensures)

pub returns-clause-joined : goal.returns-clause-joined
returns-clause-joined g c gap shown =
    let n = g.L.RBTreeOps.node in
    let kept = g.E.TreeHead.kept in
    let l = g.met.L.LinkOps.does_replay _ _ _ c.if-not-acquire_link.ensures.acquired in
    let old = g.L.LinkOps.table c.args.links.now in
    let now = g.L.LinkOps.table c.acquire_link.new.self in
    let new = g.L.LinkOps.table c.join-root.new.links in
    let head = c.join.new.self in
    let x = can_join n g.L.LinkOps.linked g.met.L.RBTreeOps.linked_alike l.was l.is c.acquire_link.ensures.frame (parts_root kept shown) in
    let i = inserts n old now new (root_kept (kept c.args.self.now.head)) c.join-root.result c.place-place.result gap c.acquire_link.ensures.frame
    (joined n x (c.join-root.ensures.joined (joinable n x) (joinable_pair n x c.root.ensures c.root-2.ensures))) in
    subst (λ (z : Place). Inserts (RepresentsKept kept n) old new head gap z) c.place-place.ensures
    (inserts_kept kept head (subst (λ (o : Option Place). Inserts (Represents n) old new o gap c.place-place.result) (sym c.join.ensures.root) i)
    (c.join.ensures.ends gap.front gap.back (printed n old (kept c.args.self.now.head) gap.front shown.front) (printed n old (kept c.args.other.now.head) gap.back shown.back)))
