use Rattle.std.proofs.Common.{ap, refl, ◌∙◌}
use Rattle.ic_lock_free_stack.specs.declared.step.Step.TheVariants.{Release}
use Rattle.ic_lock_free_stack.specs.Prelude.{got, of_record, record_of}
use Rattle.ic_lock_free_stack.proofs.HolderLemmas.{apart_in}
use Rattle.stack_uses.proofs.ReceiverLemmas.{nothing_more}
use Rattle.stack_uses.proofs.mailbox.Receiver.give_up.Goals as goal

pub returns-clause-kept : goal.returns-clause-kept
returns-clause-kept g c ps was =
    let old = c.args.self.now in
    record {
      made = c.release.ensures.made;
      mailbox = was.mailbox;
      rest = was.rest;
      opened = c.release.ensures.chains old.opened was.rest was.opened (λ q m. apart_in was.rest c.args.place q (c.requires.out.apart was.rest was.opened) m);
      got_is = ap (of_record (got old.mailbox)) c.release.ensures.step.gained ∙ (nothing_more (got old.mailbox) (record_of old.holder) (Release c.args.place) refl ∙ was.got_is);
    }
