use Rattle.ic_keyed.proofs.KeyLemmas.{own_last_out, last_popped}
use Rattle.ic_keyed.proofs.keyed.Keyed.pop_last.Goals as goal

pub invariant_of-self : goal.invariant_of-self
invariant_of-self g c = own_last_out g.T.HasKey.key_of c.self.inside.store c.pop_last.new.self c.self.invariant c.pop_last.result c.pop_last.ensures.popped

pub returns : goal.returns
returns g c = rw (← c.self.view_is) (last_popped c.self.inside.store c.pop_last.new.self c.pop_last.ensures.parts c.pop_last.result c.pop_last.ensures.popped)
