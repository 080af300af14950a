use Rattle.std.proofs.Common.{refl, sym, ◌∙◌}
use Rattle.ic_indexed.specs.Indexed.{values_of}
use Rattle.ic_container.proofs.ListedEnds.{no_last}
use Rattle.ic_keyed.proofs.KeyLemmas.{own_replaced, same_values, without_last}
use Rattle.ic_keyed.proofs.keyed.Keyed.replace_last.Goals as goal

pub returns-in_default-clause-empty : goal.returns-in_default-clause-empty
returns-in_default-clause-empty g c = rw (← c.self.view_is) (refl, no_last (values_of c.self.inside.store) (sym c.in_default.ensures.last), refl)

pub invariant_of-self : goal.invariant_of-self
invariant_of-self g c =
    let e = c.replace_and_touch.ensures in rw e.renewed.2 (own_replaced g.T.HasKey.key_of e.renewed.1 c.self.invariant c.args.value (rw (← c.self.view_is) at c.requires.new))

pub returns-clause-replaced : goal.returns-clause-replaced
returns-clause-replaced g c =
    let e = c.replace_and_touch.ensures in
    rw (← c.self.view_is) (e.renewed.0, without_last g.T.HasKey.key_of c.self.invariant e.renewed.1 (sym c.in-Some.ensures.last ∙ e.value), same_values e.parts e.renewed.2)
