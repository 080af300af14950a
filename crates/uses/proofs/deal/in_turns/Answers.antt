use Rattle.std.proofs.Common.{arith, inr, [], ◌∷◌, sym, refl, append-nil}
use Rattle.std.proofs.lemmas.Result.{IfOk-from_err}
use Rattle.ic_link_ops.specs.BothEnds.{at_the_front, at_the_back}
use Rattle.uses.proofs.Dealing.{dealt_more}
use Rattle.uses.proofs.deal.in_turns.Goals as goal

pub returns-in_default-next_back-clause-dealt : goal.returns-in_default-next_back-clause-dealt
returns-in_default-next_back-clause-dealt g c =
    let first = dealt_more _ _ (at_the_front c.in-Some.first ∷ []) c.loop-first.invariant.2 (c.next.new.self, c.in-Some.ensures.steps, refl)
    c.in_ok-push.ensures.items (sym (append-nil c.loop-first.backs.items)) in
    (c.next.new.self, first, (c.in-Some.ensures.goes.keeps, c.next_back.new.self, inr c.in_default-next_back.ensures.steps))

pub loop-first-preserved : goal.loop-first-preserved
loop-first-preserved g c =
    let invariant = c.loop-first.invariant in
    let goes = c.in-Some-next_back.ensures.goes in (
      (c.requires.either_end _).1 goes.keeps,
      (goes.on (c.in-Some.ensures.goes.on invariant.1).1).1,
      dealt_more _ _ (at_the_front c.in-Some.first ∷ at_the_back c.in-Some-next_back.last ∷ []) invariant.2
          (_, c.in-Some.ensures.steps, (_, c.in-Some-next_back.ensures.steps, refl)) c.in_ok-push.ensures.items c.in_ok-push-2.ensures.items,
      omega (arith, invariant.3, c.push.ensures.capacity),
      omega (arith, invariant.4, c.push-in-Some.ensures.capacity),
      omega (arith, invariant.5, c.in_ok-push.ensures.len, c.in_ok-push-2.ensures.len),
    )

pub returns-in_err-push-2-clause-dealt : goal.returns-in_err-push-2-clause-dealt
returns-in_err-push-2-clause-dealt g c =
    let first = dealt_more _ _ (at_the_front c.in-Some.first ∷ []) c.loop-first.invariant.2 (c.next.new.self, c.in-Some.ensures.steps, refl)
    c.in_ok-push.ensures.items (sym (append-nil c.loop-first.backs.items)) in
    (c.next.new.self, rw c.in_err-push-2.ensures.items first, IfOk-from_err _ _ c.from_residual-in_err-push-2.ensures.0)
