use Rattle.std.proofs.Common.{refl}
use Rattle.ic_indexed.specs.Indexed.{values_of}
use Rattle.ic_keyed.proofs.KeyLemmas.{own_added, same_values}
use Rattle.ic_keyed.proofs.keyed.Keyed.insert_new.Goals as goal

pub invariant_of-self-2 : goal.invariant_of-self-2
invariant_of-self-2 g c = rw c.in-Ok.ensures.added (own_added g.T.HasKey.key_of (values_of c.self.inside.store) c.args.value c.self.invariant (rw (← c.self.view_is) at c.requires.new))

pub returns-clause-inserted : goal.returns-clause-inserted
returns-clause-inserted g c = rw (← c.self.view_is) (same_values c.place_front.ensures.parts c.in-Ok.ensures.added)
