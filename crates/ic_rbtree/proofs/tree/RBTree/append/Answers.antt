use Rattle.std.proofs.Common.{[], ◌∷◌, ◌++◌, List, drop, sym, subst, append-nil}
use Rattle.ic_link_ops.specs.RedBlackTree.{Represents}
use Rattle.ic_rbtree.specs.Prelude.{Appends, root_kept, TellsEnds}
use Rattle.ic_rbtree.proofs.KeptHeads.{printed, appends_kept, parts_root, emptied}
use Rattle.ic_rbtree.proofs.Pairs.{first_there, first_represented, none_there, beside_represented, rest_joinable, rest_pair, appends, appends_none, no_root_there}
use Rattle.ic_rbtree.proofs.RepresentedClosed.{among, among_there, represented_closed}
use Rattle.ic_rbtree.proofs.tree.RBTree.append.Goals as goal

pub step-requires : goal.step-requires
step-requires g c =
    let x = parts_root g.E.TreeHead.kept c.requires.shown.1 in ((λ q. among q c.requires.shown.0.back), represented_closed g.N.NodeStore.node (beside_represented g.N.NodeStore.node x), (tt, tt))

pub unlink-requires : goal.unlink-requires
unlink-requires g c =
    let n = g.N.NodeStore.node in
    let x = parts_root g.E.TreeHead.kept c.requires.shown.1 in
    let rest = drop 1 c.requires.shown.0.back in
    let is = first_there n x c.step.ensures c.in-Some.is in
    ((λ q. among q (c.in-Some.place ∷ rest)), represented_closed n (first_represented n x is), (among_there c.in-Some.place [] rest, tt))

pub join-root-requires : goal.join-root-requires
join-root-requires g c =
    let n = g.N.NodeStore.node in
    let x = parts_root g.E.TreeHead.kept c.requires.shown.1 in
    let is = first_there n x c.step.ensures c.in-Some.is in
    let h = c.unlink.ensures.taken (g.N.NodeStore.table c.args.nodes.now) [] (drop 1 c.requires.shown.0.back) _ (first_represented n x is) in
    (rest_joinable n x h, rest_pair n x h c.root.ensures c.root-2.ensures)

pub returns-clause-appended : goal.returns-clause-appended
returns-clause-appended g c gap shown =
    let n = g.N.NodeStore.node in
    let kept = g.E.TreeHead.kept in
    let v = g.N.NodeStore.table c.args.nodes.now in
    let x = parts_root g.E.TreeHead.kept shown in
    let rest = drop 1 gap.back in
    let is = first_there n x c.step.ensures c.in-Some.is in
    let h = c.unlink.ensures.taken v [] rest _ (first_represented n x is) in
    let other = kept c.args.other.now.head in
    let ends = c.unlink.ensures.ends [] rest (subst (Represents n v (root_kept other)) is x.back) (subst (TellsEnds other) is (printed n v other gap.back shown.back)) in
    appends_kept kept c.join.new.self
    (subst (λ o. Appends (Represents n) v (g.N.NodeStore.table c.join-root.new.links) o gap) (sym c.join.ensures.root)
    (appends n x h is (c.join-root.ensures.joined (rest_joinable n x h) (rest_pair n x h c.root.ensures c.root-2.ensures))))
    (subst (λ (s : List _). TellsEnds (kept c.join.new.self) (gap.front ++ s)) (sym is) (c.join.ensures.ends gap.front rest (printed n v (kept c.args.self.now.head) gap.front shown.front) ends))

pub returns-in_default-clause-appended : goal.returns-in_default-clause-appended
returns-in_default-clause-appended g c gap shown =
    let n = g.N.NodeStore.node in
    let x = parts_root g.E.TreeHead.kept shown in
    let k = g.E.TreeHead.kept c.args.self.now.head in
    let none = none_there n x c.step.ensures c.in_default.is in
    appends_kept g.E.TreeHead.kept c.args.self.now.head (appends_none n x none)
    (subst (λ (s : List _). TellsEnds k (gap.front ++ s)) (sym none) (subst (TellsEnds k) (sym (append-nil gap.front)) (printed n (g.N.NodeStore.table c.args.nodes.now) k gap.front shown.front)))

pub returns-in_default-clause-emptied : goal.returns-in_default-clause-emptied
returns-in_default-clause-emptied g c =
    let s = c.requires.shown.1 in
    let x = parts_root g.E.TreeHead.kept s in
    let none = none_there g.N.NodeStore.node x c.step.ensures c.in_default.is in
    emptied g.N.NodeStore.node (g.N.NodeStore.table c.args.nodes.now) (g.E.TreeHead.kept c.args.other.now.head) (rw none at s.back) (no_root_there g.N.NodeStore.node x none)
