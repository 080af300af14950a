use Rattle.ic_keyed.proofs.KeyLemmas.{own_first_out, first_popped}
use Rattle.ic_keyed.proofs.keyed.Keyed.pop_first.Goals as goal

pub invariant_of-self : goal.invariant_of-self
invariant_of-self g c = own_first_out g.T.HasKey.key_of c.self.inside.store c.pop_first.new.self c.self.invariant c.pop_first.result c.pop_first.ensures.popped

pub returns : goal.returns
returns g c = rw (← c.self.view_is) (first_popped c.self.inside.store c.pop_first.new.self c.pop_first.ensures.parts c.pop_first.result c.pop_first.ensures.popped)
