use Rattle.ic_world.specs.Looks.{looks_within}
use Rattle.ic_world.proofs.Looks.{few_for}
use Rattle.ic_world.proofs.Ranged.{kind_tested, ranged}
use Rattle.ic_world.proofs.world.World.range.Goals as goal

pub returns-in-Ok : goal.returns-in-Ok
returns-in-Ok g c =
    let e = c.in-Ok.ensures in
    let looks = c.range_by.ensures in
    let from = c.probe_in_bound-from.ensures in
    let to = c.probe_in_bound-to.ensures in
    let objects = c.self.inside.objects in
    rw (c.looks_in.ensures, c.looks_in-in-Ok.ensures)
    (ranged g.A.Key.Ord.cmp g.A.KeyAdapter.key_of c.args.min c.args.max c.in-Ok.places.items (looks_within c.range_by.new.min) (looks_within c.range_by.new.max) c.self.inside.adapter objects _ _ c.args.collection c.self.view_is
    c.in-Some.ensures.some (kind_tested c.kind.ensures c.is_tree.ensures c.if-not-is_tree.false) (rw (from.order objects, to.order objects) at e.range)
    (few_for _ _ objects _ _ _ _ from.none (from.order objects) looks.min_looks, few_for _ _ objects _ _ _ _ to.none (to.order objects) looks.max_looks))
