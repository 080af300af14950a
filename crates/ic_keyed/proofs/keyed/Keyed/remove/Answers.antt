use Rattle.std.proofs.Common.{refl, sym, ◌∙◌}
use Rattle.ic_indexed.specs.Indexed.{values_of}
use Rattle.ic_keyed.proofs.KeyLemmas.{removed_it, rest_own, same_values, without_nothing}
use Rattle.ic_keyed.proofs.keyed.Keyed.remove.Goals as goal

pub returns-in_err-leaving-clause-removed : goal.returns-in_err-leaving-clause-removed
returns-in_err-leaving-clause-removed g c =
    rw (← c.self.view_is) (same_values refl (sym (without_nothing g.T.HasKey.key_of c.args.key (values_of c.self.inside.store) (sym c.in_err-leaving.ensures.found))))

pub invariant_of-self : goal.invariant_of-self
invariant_of-self g c = rest_own g.T.HasKey.key_of c.remove.ensures.removed c.self.invariant

pub returns-clause-removed : goal.returns-clause-removed
returns-clause-removed g c =
    let e = c.remove.ensures in
    rw (← c.self.view_is) (same_values e.parts (removed_it g.T.HasKey.key_of e.removed c.self.invariant c.args.key (sym c.in_ok-leaving.ensures.found ∙ e.value)))
