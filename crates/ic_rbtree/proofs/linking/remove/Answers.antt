use Rattle.std.proofs.Common.{[], ◌∷◌, ◌++◌, List, drop, sym, ap, ◌∙◌, subst}
use Rattle.ic_rbtree.specs.Kept.{root_kept, TellsEnds}
use Rattle.ic_link_ops.specs.RedBlackTree.{Represents}
use Rattle.ic_link_ops.specs.Sequences.{join}
use Rattle.ic_rbtree.proofs.KeptHeads.{shown, printed, removes_kept}
use Rattle.ic_rbtree.proofs.Removing.{spot, front_represented, spot_linked, removes}
use Rattle.ic_rbtree.proofs.RepresentedClosed.{among, among_there, represented_closed}
use Rattle.ic_rbtree.proofs.linking.remove.Goals as goal

pub unlink-requires : goal.unlink-requires
unlink-requires g c =
    let r = c.requires.member in
    let f = front_represented g.L.RBTreeOps.node r.0 c.args.place (shown (g.E.TreeHead.kept c.args.head.now) r.1) (sym r.2) in
    (λ q. among q (r.0.front ++ c.args.place ∷ f.0), represented_closed g.L.RBTreeOps.node f.2, (among_there c.args.place r.0.front f.0, tt))

pub release_link-requires : goal.release_link-requires
release_link-requires g c =
    let n = g.L.RBTreeOps.node in
    let r = c.requires.member in
    let f = front_represented n r.0 c.args.place (shown (g.E.TreeHead.kept c.args.head.now) r.1) (sym r.2) in
    record { linked = g.met.L.LinkOps.does_replay _ _ [] (c.unlink.ensures.keeps_links _ [] (g.met.L.LinkOps.does_nothing _)) c.args.place ∙ (sym (g.met.L.RBTreeOps.linked_alike _) ∙ spot_linked n (spot n r.0.front c.args.place f.0 f.2)) }

pub returns-clause-removed : goal.returns-clause-removed
returns-clause-removed g c gap h is =
    let n = g.L.RBTreeOps.node in
    let kept = g.E.TreeHead.kept c.args.head.now in
    let new = g.E.TreeHead.kept c.unlink.new.self in
    let was = shown kept h in
    let f = front_represented n gap c.args.place was (sym is) in
    let same = ap (λ (s : List _). gap.front ++ s) f.1 in
    removes_kept g.E.TreeHead.kept c.unlink.new.self
    (removes n _ _ _ _ _ c.args.place gap f.0 f.1 f.2 (c.unlink.ensures.taken (g.L.LinkOps.table c.args.links.now) gap.front f.0 [] f.2) c.release_link.ensures.frame)
    (subst (λ (s : List _). TellsEnds new (gap.front ++ s)) (sym (ap (λ (s : List _). drop 1 s) f.1))
    (c.unlink.ensures.ends gap.front f.0 (subst (Represents n (g.L.LinkOps.table c.args.links.now) (root_kept kept)) same was) (subst (TellsEnds kept) same (printed n (g.L.LinkOps.table c.args.links.now) kept (join gap) h))))

pub returns-clause-released : goal.returns-clause-released
returns-clause-released g c =
    g.met.L.LinkOps.does_on _ _ _ [] _ (c.unlink.ensures.keeps_links _ [] (g.met.L.LinkOps.does_nothing _)) c.release_link.ensures.released
