use Rattle.std.proofs.Common.{refl}
use Rattle.ic_rbtree.proofs.KeptHeads.{shown, stands_root}
use Rattle.ic_rbtree.proofs.SidedEdits.{gap_beside, inserts_beside}
use Rattle.ic_rbtree.proofs.tree.RBTree.insert_beside.Goals as goal

pub insert_pos_beside-parent-requires : goal.insert_pos_beside-parent-requires
insert_pos_beside-parent-requires g c = record { stands = rw (c.root.ensures, c.get.ensures) (stands_root g.E.TreeHead.kept c.requires.stands) }

pub insert-requires-clause-insert_pos : goal.insert-requires-clause-insert_pos
insert-requires-clause-insert_pos g c =
    let k = gap_beside c.args.side c.requires.stands in
    (k.0, k.1, c.insert_pos_beside-parent.ensures k.0 (rw c.root.ensures (shown (g.E.TreeHead.kept c.args.self.now.head) k.1)) (rw c.get.ensures k.2))

pub returns-clause-inserted : goal.returns-clause-inserted
returns-clause-inserted g c =
    let e = c.insert.ensures in
    inserts_beside c.args.side g.met.L.LinkOps.refused_keeps c.args.object c.requires.stands refl _ e.acquired e.refused e.unchanged
    (λ gap h here. e.inserted gap h (c.insert_pos_beside-parent.ensures gap (rw c.root.ensures (shown (g.E.TreeHead.kept c.args.self.now.head) h)) (rw c.get.ensures here)))
