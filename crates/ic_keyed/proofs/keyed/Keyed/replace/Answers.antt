use Rattle.std.proofs.Common.{ℕ, ◌∷◌, List, sym, ap, ◌∙◌}
use Rattle.ic_indexed.specs.Indexed.{values_of}
use Rattle.ic_keyed.specs.Keyed.{value_with}
use Rattle.ic_keyed.proofs.KeyLemmas.{found_key, own_renewed, removed_it, same_values}
use Rattle.ic_keyed.proofs.keyed.Keyed.replace.Goals as goal

pub invariant_of-self : goal.invariant_of-self
invariant_of-self g c =
    let e = c.replace_and_touch.ensures in
    let found = found_key g.T.HasKey.key_of c.key.result.now (values_of c.self.inside.store) (sym c.in-Some.ensures.found ∙ e.value) in
    rw e.renewed.2 (own_renewed g.T.HasKey.key_of e.renewed.1 c.self.invariant c.args.value (found ∙ c.key.ensures))

pub returns-clause-replaced : goal.returns-clause-replaced
returns-clause-replaced g c =
    let e = c.replace_and_touch.ensures in
    let found = ap (λ (n : ℕ). value_with g.T.HasKey.key_of n (values_of c.self.inside.store)) (sym c.key.ensures) ∙ sym c.in-Some.ensures.found ∙ e.value in
    let is = e.renewed.2 ∙ ap (λ (l : List g.row.T.Denot). c.args.value ∷ l) (removed_it g.T.HasKey.key_of e.renewed.1 c.self.invariant (g.T.HasKey.key_of c.args.value) found) in
    rw (← c.self.view_is) (found, same_values e.parts is)
