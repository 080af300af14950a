use Rattle.std.proofs.Common.{◌++◌, ap, ◌∙◌, subst, append_assoc}
use Rattle.stack_uses.specs.Mail.{HasReceived}
use Rattle.stack_uses.proofs.mailbox.Receiver.receive_all.Goals as goal

pub open-requires-clause-kept : goal.open-requires-clause-kept
open-requires-clause-kept g c =
    let first = c.receive_opened.ensures.came c.requires.kept.0 c.requires.kept.1 in
    (c.requires.kept.0 ++ first.0, first.2)

pub receive_opened-requires-2 : goal.receive_opened-requires-2
unfolding open-requires-clause-kept
receive_opened-requires-2 g c =
    let first = c.receive_opened.ensures.came c.requires.kept.0 c.requires.kept.1 in
    record { kept = (c.requires.kept.0 ++ first.0, c.open.ensures.kept (c.requires.kept.0 ++ first.0) first.2) }

pub returns-clause-came : goal.returns-clause-came
returns-clause-came g c ps was =
    let first = c.receive_opened.ensures.came ps was in
    let rest = c.receive_opened-2.ensures.came (ps ++ first.0) (c.open.ensures.kept (ps ++ first.0) first.2) in (
      first.0 ++ rest.0,
      rest.1 ∙ (ap (λ l. l ++ rest.0) first.1 ∙ append_assoc c.args.came.now.items first.0 rest.0),
      subst (HasReceived c.args.stacks.now _) (append_assoc ps first.0 rest.0) rest.2,
    )
