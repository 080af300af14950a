use Rattle.std.proofs.Common.{List, [], ◌∷◌, ◌++◌, sym, subst, ap, arith}
use Rattle.ic_unsafe_ref.specs.declared.place.Place.{Place}
use Rattle.ic_lock_free_stack.specs.Holders.{spent_by}
use Rattle.stack_uses.specs.Mail.{holder_of, HasReceived}
use Rattle.stack_uses.specs.declared.mailbox.Receiver.{Receiver}
use Rattle.lock_free_stack_tests.proofs.mail.receive_some.Goals as goal
use Rattle.lock_free_stack_tests.proofs.mail.receive_some.Goals.{in-Some+in_ok-push, in_default}

pub give_up-requires-clause-out : goal.give_up-requires-clause-out
give_up-requires-clause-out c = let was = c.loop.invariant.kept in (c.in-Some.ensures.some was.0 was.1).1

pub loop-preserved : goal.loop-preserved
loop-preserved c =
    let was = c.loop.invariant in
    let kept : Receiver → Type 0 = λ r. (ps : List Place) × HasReceived c.args.stacks.now r ps in
    let spent = c.receive.ensures.spent in
    let before = was.spent in
    elim c.match-receive.branch [
      | in-Some+in_ok-push w ↦ record {
        kept = subst kept (sym w.receiver-is)
            (was.kept.0 ++ w.in-Some.place ∷ [], w.give_up.ensures.kept (was.kept.0 ++ w.in-Some.place ∷ []) (w.in-Some.ensures.some was.kept.0 was.kept.1).0);
        spent = (let s = ap (λ r. spent_by (holder_of r)) w.receiver-is in let e = w.give_up.ensures.spent in omega (arith, s, e, spent, before));
      }
      | in_default w ↦ record {
        kept = subst kept (sym w.receiver-is) c.receive.ensures.kept;
        spent = (let s = ap (λ r. spent_by (holder_of r)) w.receiver-is in omega (arith, s, spent, before));
      }
    ]
