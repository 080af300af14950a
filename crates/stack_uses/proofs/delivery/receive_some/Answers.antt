use Rattle.std.proofs.Common.{◌≡◌, [], ◌++◌, sym, ap, ◌∙◌, subst, arith, append-nil}
use Rattle.ic_lock_free_stack.specs.declared.stacks.Holder.{Holder}
use Rattle.ic_lock_free_stack.specs.Prelude.{got, of_record, record_of}
use Rattle.ic_lock_free_stack.proofs.HolderLemmas.{one_sequence}
use Rattle.stack_uses.specs.Mail.{HasReceived}
use Rattle.stack_uses.specs.Delivery.{OnlyTakes, HasTaken}
use Rattle.stack_uses.proofs.DeliveryLemmas.{takes_more}
use Rattle.stack_uses.proofs.delivery.receive_some.Goals as goal

pub loop-preserved : goal.loop-preserved
loop-preserved g c =
    let was = c.loop.invariant in
    let more = c.receive_all.ensures.came c.loop.came.items was.received in
    let took = c.in_ok-receive_all.ensures.took in
    record {
      received = subst (HasReceived c.args.stacks.now c.receive_all.new.self) (sym more.1) more.2;
      opened = c.in_ok-receive_all.ensures.all;
      takes = subst OnlyTakes (sym took.1.gained) (takes_more (record_of c.loop.receiver.holder) c.loop.receiver.mailbox took.0 was.takes);
      mailbox = c.receive_all.ensures.mailbox ∙ was.mailbox;
      few = (let s = c.receive_all.ensures.spent in let f = was.few in omega (arith, s, f));
    }

pub returns : goal.returns
returns g c =
    let was = c.loop.invariant in
    let stacks = c.args.stacks.now in
    let receiver = c.loop.receiver in
    let none : was.received.rest ≡ [] = one_sequence stacks receiver.holder receiver.opened was.received.rest [] was.received.opened was.opened in
    subst (λ (h : Holder). HasTaken stacks c.args.turns h c.loop.came.items) (sym c.into_holder.ensures) record {
      made = was.received.made;
      takes = was.takes;
      few = (let f = was.few in let e = c.loop.auto.counter-end in omega (arith, f, e));
      came_is = ap (λ k. of_record (got k) (record_of receiver.holder)) (sym was.mailbox) ∙ (was.received.got_is ∙ (ap (λ l. c.loop.came.items ++ l) none ∙ append-nil c.loop.came.items));
    }
