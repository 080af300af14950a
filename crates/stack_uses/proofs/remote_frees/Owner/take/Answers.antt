use Rattle.std.proofs.Common.{◌∷◌, drop, sym, subst, ap, ◌∙◌}
use Rattle.ic_lock_free_stack.specs.declared.stacks.Holder.{Holder}
use Rattle.ic_lock_free_stack.specs.Prelude.{holds, IsOf, record_of}
use Rattle.stack_uses.proofs.ReceiverLemmas.{map_some}
use Rattle.stack_uses.proofs.remote_frees.Owner.take.Goals as goal

pub returns-clause-own : goal.returns-clause-own
returns-clause-own g c p t was =
    let mid = c.refill.ensures.own p t was in (
      c.next.ensures.answer (p ∷ t) mid.chain,
      record { made = subst (λ (h : Holder). IsOf c.args.stacks.now h) (sym c.next.ensures.same) mid.made; stack = mid.stack; chain = c.next.ensures.rest (p ∷ t) mid.chain },
    )

pub returns-clause-kept : goal.returns-clause-kept
returns-clause-kept g c =
    let t = c.refill.ensures.kept.0 in
    let mid = c.refill.ensures.kept.1 in
    (drop 1 t, record { made = subst (λ (h : Holder). IsOf c.args.stacks.now h) (sym c.next.ensures.same) mid.made; stack = mid.stack; chain = c.next.ensures.rest t mid.chain })

pub returns-clause-some : goal.returns-clause-some
unfolding returns-clause-kept
returns-clause-some g c =
    let t = c.refill.ensures.kept.0 in
    let mid = c.refill.ensures.kept.1 in
    map_some c.next.result
    (λ p found. (drop 1 t, (returns-clause-kept g c).1, found.2, found.0, ap (λ (h : Holder). holds p (record_of h)) c.next.ensures.same ∙ found.1))
    (c.next.ensures.found t mid.chain)
