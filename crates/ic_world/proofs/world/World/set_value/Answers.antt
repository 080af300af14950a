use Rattle.ic_world.proofs.ObjectChanges.{value_swapped, value_was}
use Rattle.ic_world.proofs.world.World.set_value.Goals as goal

pub invariant_of-self : goal.invariant_of-self
invariant_of-self g c = ((value_swapped g.A.Key.Ord.cmp g.A.KeyAdapter.key_of c.self.invariant.0 c.self.view_is c.args.object c.args.value c.swap_value.result c.swap_value.new.objects c.swap_value.ensures.swapped).0, record { none = c.self.invariant.1.none })

pub returns-clause-step : goal.returns-clause-step
returns-clause-step g c = (value_swapped g.A.Key.Ord.cmp g.A.KeyAdapter.key_of c.self.invariant.0 c.self.view_is c.args.object c.args.value c.swap_value.result c.swap_value.new.objects c.swap_value.ensures.swapped).1

pub returns-clause-value : goal.returns-clause-value
returns-clause-value g c = rw (← c.self.view_is) (value_was c.self.inside.objects c.args.object c.args.value c.swap_value.result c.swap_value.new.objects c.swap_value.ensures.swapped)
