use Rattle.std.proofs.Common.{◌≡◌, ◌∙◌, true, sym, rules}
use Rattle.collections_tests.proofs.Ready.{on_ok, ready_placed, in_order_ready}
use Rattle.collections_tests.proofs.tree.summaries.SummedTree.insert_with_hint.Goals as goal

pub member_at-hint-requires : goal.member_at-hint-requires
member_at-hint-requires g c = let q = c.self.invariant.ready in record { shown = (q.members, q.shown) }

pub insert_with_hint-inserted-requires-clause-covered : goal.insert_with_hint-inserted-requires-clause-covered
insert_with_hint-inserted-requires-clause-covered g c = rw c.self.invariant.ready.covers c.eighth-object.ensures

pub insert_with_hint-inserted-requires-clause-placed : goal.insert_with_hint-inserted-requires-clause-placed
insert_with_hint-inserted-requires-clause-placed g c =
    ready_placed g.E.TreeHead.kept g.L.LinkOps.linked g.met.L.RBTreeOps.linked_alike g.met.L.LinkOps.linked_is_covered c.self.invariant.ready c.self.inside.objects c.self.invariant.placed

pub insert_with_hint-inserted-requires-clause-object : goal.insert_with_hint-inserted-requires-clause-object
insert_with_hint-inserted-requires-clause-object g c = c.self.invariant.placed c.eighth-object.result c.eighth-object.ensures

pub invariant_of-self : goal.invariant_of-self
invariant_of-self g c =
    let q = c.self.invariant.ready in
    let e = c.insert_with_hint-inserted.ensures in
    let is : c.is_ok.result ≡ true = search rules in
    let ok = sym c.is_ok.ensures.value ∙ is in
    record { placed = c.self.invariant.placed; ready = in_order_ready g.E.TreeHead.kept q (on_ok c.insert_with_hint-inserted.result ok e.acquired) (on_ok c.insert_with_hint-inserted.result ok (e.inserted q.members q.shown)) }
