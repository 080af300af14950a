use Rattle.std.proofs.Common.{◌∙◌, refl}
use Rattle.ic_rbtree.proofs.InOrder.{own_is, among_by, put_among}
use Rattle.ic_rbtree.proofs.KeptHeads.{room_new}
use Rattle.ic_rbtree.proofs.keys.ordered.RBTreeOrdered.insert_in_order.Goals as goal

pub returns-clause-inserted : goal.returns-clause-inserted
returns-clause-inserted g c =
    let e = c.insert_in_order.ensures in
    among_by (g.O.Values.values c.args.objects.now)
    (own_is g.A.Key.Ord.cmp g.A.KeyAdapter.key_of (g.O.Values.values c.args.objects.now) c.new-probe.ensures.adapter (c.new-probe.ensures.key ∙ c.get_key.ensures) refl c.value-value.ensures)
    (put_among g.met.L.LinkOps.refused_keeps c.requires.stands refl _ _ e.acquired e.refused e.unchanged e.inserted)

pub returns-clause-kept : goal.returns-clause-kept
returns-clause-kept g c = record { stands = (returns-clause-inserted g c).stands; keeps = refl }

pub insert_in_order-requires-clause-room : goal.insert_in_order-requires-clause-room
insert_in_order-requires-clause-room g c = rw c.new-probe.ensures.none (room_new (g.E.TreeHead.kept c.args.self.now.head))
