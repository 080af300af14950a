use Rattle.std.proofs.Common.{refl, ◌∷◌}
use Rattle.ic_link_ops.proofs.RepresentedTrees.{one_sequence}
use Rattle.ic_rbtree.proofs.KeptHeads as kept
use Rattle.ic_rbtree.proofs.tree.RBTree.remove.Goals as goal

pub remove-requires : goal.remove-requires
remove-requires g c =
    let m = c.requires.member in
    rw c.place.ensures (record { member = (record { front = m.front; back = c.args.object.now ∷ m.back }, m.shown, refl) })

pub returns-clause-removed : goal.returns-clause-removed
returns-clause-removed g c front back shown =
    (c.remove.ensures.removed (record { front = front; back = c.args.object.now ∷ back }) shown (rw c.place.ensures refl)).shows

pub returns-clause-released : goal.returns-clause-released
returns-clause-released g c = rw (← c.place.ensures) c.remove.ensures.released

pub returns-clause-frame : goal.returns-clause-frame
returns-clause-frame g c s shown =
    let m = c.requires.member in
    let k = g.E.TreeHead.kept c.args.self.now.head in
    rw (← one_sequence (kept.shown k m.shown) (kept.shown k shown))
    (c.remove.ensures.removed (record { front = m.front; back = c.args.object.now ∷ m.back }) m.shown (rw c.place.ensures refl)).frame
