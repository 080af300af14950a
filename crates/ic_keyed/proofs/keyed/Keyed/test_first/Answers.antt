use Rattle.std.proofs.Common.{refl, sym, subst, ◌∙◌}
use Rattle.std.specs.Fn.{FnReturnsAt}
use Rattle.std.proofs.lemmas.Option.{same_Some}
use Rattle.ic_keyed.proofs.KeyLemmas.{own_after, rest_own, some_there, without_first}
use Rattle.ic_keyed.proofs.RetainLemmas.{same_first, turn_gone, turn_kept}
use Rattle.ic_keyed.proofs.keyed.Keyed.test_first.Goals as goal

pub invariant_of-self : goal.invariant_of-self
invariant_of-self g c =
    let there = some_there _ c.in-Some.ensures.placed in
    let t = c.move_to_back.ensures.moved there.0 there.1 in
    rw t.2 (own_after g.T.HasKey.key_of t.1 c.self.invariant)

pub invariant_of-self-else-keeps : goal.invariant_of-self-else-keeps
invariant_of-self-else-keeps g c = rest_own g.T.HasKey.key_of c.remove.ensures.removed c.self.invariant

pub returns-then-keeps-clause-tested : goal.returns-then-keeps-clause-tested
returns-then-keeps-clause-tested g c =
    rw (← c.self.view_is) (λ first rest is.
    let told : FnReturnsAt g.F.Fn c.args.keeps.now c.at.result.now c.keeps.result = record { shown = c.at.result; shows = refl; says = record { met = c.keeps.ensures } } in
    let t = c.move_to_back.ensures.moved c.at.result.now (sym c.at.ensures) in
    let cut = without_first g.T.HasKey.key_of c.self.invariant t.1 (sym c.in-Some.ensures.first ∙ sym c.at.ensures) in
    (c.keeps.result, subst (λ value. FnReturnsAt g.F.Fn c.args.keeps.now value c.keeps.result) (same_first (sym cut ∙ is)) told, t.2 ∙ turn_kept (sym cut ∙ is) c.if-keeps.true))

pub returns-else-keeps-clause-tested : goal.returns-else-keeps-clause-tested
returns-else-keeps-clause-tested g c =
    rw (← c.self.view_is) (λ first rest is.
    let told : FnReturnsAt g.F.Fn c.args.keeps.now c.at.result.now c.keeps.result = record { shown = c.at.result; shows = refl; says = record { met = c.keeps.ensures } } in
    let e = c.remove.ensures in
    let gone = same_Some _ _ (c.at.ensures ∙ e.value) in
    let cut = without_first g.T.HasKey.key_of c.self.invariant e.removed (sym c.in-Some.ensures.first ∙ e.value) in
    (c.keeps.result, subst (λ value. FnReturnsAt g.F.Fn c.args.keeps.now value c.keeps.result) (gone ∙ same_first (sym cut ∙ is)) told, turn_gone (sym cut ∙ is) c.if-keeps.false))
