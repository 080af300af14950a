use Rattle.std.proofs.Common.{◌≡◌, Some, [], ◌∷◌, ◌++◌, sym, ap, subst}
use Rattle.ic_link_ops.specs.Prelude.{Place, Cut}
use Rattle.ic_link_ops.proofs.Positions.{stands_on}
use Rattle.ic_rbtree.specs.Kept.{TellsEnds}
use Rattle.ic_rbtree.proofs.Cuts.{splits}
use Rattle.ic_rbtree.proofs.KeptHeads.{shown, printed, member_root, splits_kept}
use Rattle.ic_rbtree.proofs.Removing.{represented_of}
use Rattle.ic_rbtree.proofs.tree.RBTree.split_off.Goals as goal

pub insert_pos_beside-parent-requires : goal.insert_pos_beside-parent-requires
insert_pos_beside-parent-requires g c =
    record { stands = rw c.root.ensures (stands_on (member_root (g.E.TreeHead.kept c.args.self.now.head) c.requires.member) (ap (λ p. Some p) c.place-place.ensures)) }

pub cut_at-front-requires : goal.cut_at-front-requires
cut_at-front-requires g c =
    let m = member_root (g.E.TreeHead.kept c.args.self.now.head) c.requires.member in
    let gap : Cut = record { front = m.front; back = c.args.object.now ∷ m.back } in
    (_, _, gap, [], represented_of g.L.RBTreeOps.node m.shown, c.insert_pos_beside-parent.ensures gap (rw c.root.ensures m.shown) (ap (λ p. Some p) c.place-place.ensures))

pub split-rest-requires : goal.split-rest-requires
split-rest-requires g c =
    let n = g.L.RBTreeOps.node in
    let m = member_root (g.E.TreeHead.kept c.args.self.now.head) c.requires.member in
    let gap : Cut = record { front = m.front; back = c.args.object.now ∷ m.back } in
    record { shown = (m.front, (splits n m.shown (c.cut_at-front.ensures.cut _ _ gap [] (represented_of n m.shown) (c.insert_pos_beside-parent.ensures gap (rw c.root.ensures m.shown) (ap (λ p. Some p) c.place-place.ensures)))).keeps) }

pub returns-clause-split : goal.returns-clause-split
returns-clause-split g c front back h =
    let n = g.L.RBTreeOps.node in
    let kept = g.E.TreeHead.kept in
    let k = kept c.args.self.now.head in
    let x = shown k h in
    let gap : Cut = record { front = front; back = c.args.object.now ∷ back } in
    let s = splits n x (c.cut_at-front.ensures.cut _ _ gap [] (represented_of n x) (c.insert_pos_beside-parent.ensures gap (rw c.root.ensures x) (ap (λ p. Some p) c.place-place.ensures))) in
    let place : c.args.object.now ≡ c.place-place.result = sym c.place-place.ensures in
    let t = c.split-rest.ensures.ends front back s.keeps (subst (λ (z : Place). TellsEnds k (front ++ z ∷ back)) place (printed n (g.L.LinkOps.table c.args.links.now) k (front ++ c.args.object.now ∷ back) h)) in
    splits_kept kept c.split-rest.new.self c.split-rest.result
    (rw (c.split-rest.ensures.root, c.split-rest.ensures.rest_root) s) t.0 (subst (λ (z : Place). TellsEnds (kept c.split-rest.result) (z ∷ back)) (sym place) t.1)
