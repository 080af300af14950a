use Rattle.std.proofs.Common.{OnOk, ◌∙◌, subst, rules}
use Rattle.ic_rbtree.specs.Prelude.{compared, InsertsInOrder, RepresentsKept, head_of}
use Rattle.ic_rbtree.proofs.KeptHeads.{room_new}
use Rattle.ic_rbtree.proofs.InOrder.{own_is}
use Rattle.ic_rbtree.proofs.tree.RBTree.insert.Goals as goal

pub returns : goal.returns
returns g c = record {
  inserted = λ s h.
      subst
      (λ order. OnOk c.insert_by.result
      (InsertsInOrder (RepresentsKept g.E.TreeHead.kept g.L.RBTreeOps.node) (compared order (g.O.Values.values c.args.objects.now)) (g.L.LinkOps.table c.args.links.now) (g.L.LinkOps.table c.insert_by.new.links) (head_of c.insert_by.new.self) s c.args.object))
      (own_is g.A.Key.Ord.cmp g.A.KeyAdapter.key_of (g.O.Values.values c.args.objects.now) c.new-probe.ensures.adapter (c.new-probe.ensures.key ∙ c.get_key.ensures) c.place.ensures c.value-value.ensures)
      (c.insert_by.ensures.inserted s h);
  acquired = search rules;
  adapter = search rules;
  refused = search rules;
  unchanged = search rules;
}

pub insert_by-requires-clause-room : goal.insert_by-requires-clause-room
insert_by-requires-clause-room g c = rw c.new-probe.ensures.none (room_new (g.E.TreeHead.kept c.args.self.now.head))
