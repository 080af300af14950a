use Rattle.ic_world.proofs.Growth.{field_added}
use Rattle.ic_world.proofs.world.World.add_field.Goals as goal

pub invariant_of-self : goal.invariant_of-self
invariant_of-self g c = (field_added c.self.inside.fields.items c.self.invariant c.self.view_is g.A.Key.Ord.cmp g.A.KeyAdapter.key_of c.args.kind c.in-Some.links c.in-Some.ensures c.append.result c.append.new.list.items c.append.ensures).0

pub returns : goal.returns
returns g c = (field_added c.self.inside.fields.items c.self.invariant c.self.view_is g.A.Key.Ord.cmp g.A.KeyAdapter.key_of c.args.kind c.in-Some.links c.in-Some.ensures c.append.result c.append.new.list.items c.append.ensures).1
