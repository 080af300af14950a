use Rattle.std.proofs.Common.{refl, sym, ap, ◌∙◌}
use Rattle.ic_indexed.specs.Indexed.{values_of}
use Rattle.ic_unsafe_ref.specs.Objects.{object_at}
use Rattle.ic_keyed.proofs.KeyLemmas.{moved_it, own_renewed, same_values, some_there, touched_none}
use Rattle.ic_keyed.proofs.keyed.Keyed.get.Goals as goal

pub returns-in_err-used : goal.returns-in_err-used
returns-in_err-used g c =
    let none = sym c.in_err-used.ensures.found in
    rw (c.from_residual.ensures, ← c.self.view_is)
    ((refl, λ _. tt, same_values refl (sym (touched_none g.T.HasKey.key_of c.args.key (values_of c.self.inside.store) none))), record { touches = tt; value = sym none })

pub invariant_of-self-2 : goal.invariant_of-self-2
invariant_of-self-2 g c =
    let there = some_there _ c.in_ok-used.ensures.placed in
    let t = c.move_to_front.ensures.moved there.0 there.1 in
    rw t.2 (own_renewed g.T.HasKey.key_of t.1 c.self.invariant there.0 refl)

pub returns : goal.returns
returns g c =
    let e = c.move_to_front.ensures in
    let there = sym (c.at.ensures ∙ ap (λ objects. object_at objects c.in_ok-used.used) e.values) in
    let found = sym c.in_ok-used.ensures.found ∙ there in
    let t = e.moved c.at.result.now there in
    rw (← c.self.view_is)
    ((refl, λ _. tt, same_values e.parts (t.2 ∙ moved_it g.T.HasKey.key_of t.1 c.self.invariant c.args.key found)), record { touches = tt; value = sym found })
