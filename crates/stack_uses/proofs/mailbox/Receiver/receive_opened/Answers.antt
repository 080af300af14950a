use Rattle.std.proofs.Common.{List, [], ◌∷◌, ◌++◌, refl, sym, ap, ◌∙◌, subst, append_assoc, append-nil}
use Rattle.ic_unsafe_ref.specs.declared.place.Place.{Place}
use Rattle.ic_lock_free_stack.proofs.LeftLemmas.{left_fewer}
use Rattle.stack_uses.specs.Mail.{HasReceived}
use Rattle.stack_uses.proofs.ReceiverLemmas.{receives_first}
use Rattle.stack_uses.proofs.mailbox.Receiver.receive_opened.Goals as goal

pub loop-place-init : goal.loop-place-init
loop-place-init g c = record {
  kept = c.requires.kept;
  came = λ ps was. ([], sym (append-nil c.args.came.now.items), subst (HasReceived c.args.stacks.now c.args.self.now) (sym (append-nil ps)) was);
  holder = refl;
  mailbox = refl;
}

pub returns-in_err-push-clause-came : goal.returns-in_err-push-clause-came
returns-in_err-push-clause-came g c ps was =
    let so_far = c.loop-place.invariant.came ps was in
    (so_far.0, c.in_err-push.ensures.items ∙ so_far.1, so_far.2)

pub loop-place-smaller : goal.loop-place-smaller
loop-place-smaller g c =
    let was = c.loop-place.invariant.kept.1 in
    left_fewer c.args.stacks.now c.loop-place.self.holder c.next.new.holder c.loop-place.self.opened c.next.new.chain was.rest c.in-Some.place was.opened
    (c.in-Some.ensures ∙ was.opened.starts) (c.next.ensures.rest was.rest was.opened)

pub loop-place-preserved : goal.loop-place-preserved
loop-place-preserved g c =
    let stacks = c.args.stacks.now in
    let mid = c.loop-place.invariant in
    let p : Place = c.in-Some.place in
    let more : (ps : List Place) → HasReceived stacks c.loop-place.self ps → HasReceived stacks record { holder = c.next.new.holder; mailbox = c.loop-place.self.mailbox; opened = c.next.new.chain } (ps ++ p ∷ []) =
    λ ps was. receives_first stacks c.loop-place.self ps was c.next.new.holder c.next.new.chain c.next.ensures.same (c.next.ensures.rest was.rest was.opened) c.next.result p
    (c.next.ensures.answer was.rest was.opened) (c.in-Some.ensures ∙ was.opened.starts) (c.next.ensures.found was.rest was.opened) in
    record {
      kept = (mid.kept.0 ++ p ∷ [], more mid.kept.0 mid.kept.1);
      came = λ ps was.
          let so_far = mid.came ps was in (
            so_far.0 ++ p ∷ [],
            c.in_ok-push.ensures.items ∙ (ap (λ l. l ++ p ∷ []) so_far.1 ∙ append_assoc c.args.came.now.items so_far.0 (p ∷ [])),
            subst (HasReceived stacks _) (append_assoc ps so_far.0 (p ∷ [])) (more (ps ++ so_far.0) so_far.2),
          );
      holder = c.next.ensures.same ∙ mid.holder;
      mailbox = mid.mailbox;
    }
