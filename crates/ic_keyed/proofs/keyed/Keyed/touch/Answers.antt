use Rattle.std.proofs.Common.{refl, sym, ◌∙◌}
use Rattle.ic_indexed.specs.Indexed.{values_of}
use Rattle.ic_keyed.proofs.KeyLemmas.{moved_it, own_renewed, same_values, some_there, touched_none}
use Rattle.ic_keyed.proofs.keyed.Keyed.touch.Goals as goal

pub returns-in_default-clause-touched : goal.returns-in_default-clause-touched
returns-in_default-clause-touched g c =
    rw (← c.self.view_is) (same_values refl (sym (touched_none g.T.HasKey.key_of c.args.key (values_of c.self.inside.store) (sym c.in_default.ensures.found))))

pub invariant_of-self : goal.invariant_of-self
invariant_of-self g c =
    let there = some_there _ c.in-Some.ensures.placed in
    let t = c.move_to_front.ensures.moved there.0 there.1 in
    rw t.2 (own_renewed g.T.HasKey.key_of t.1 c.self.invariant there.0 refl)

pub returns-clause-touched : goal.returns-clause-touched
returns-clause-touched g c =
    let there = some_there _ c.in-Some.ensures.placed in
    let t = c.move_to_front.ensures.moved there.0 there.1 in
    rw (← c.self.view_is)
    (same_values c.move_to_front.ensures.parts (t.2 ∙ moved_it g.T.HasKey.key_of t.1 c.self.invariant c.args.key (sym c.in-Some.ensures.found ∙ there.1)))
