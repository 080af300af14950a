use Rattle.stack_uses.proofs.ReceiverLemmas.{receives, received}
use Rattle.stack_uses.proofs.mailbox.Receiver.receive.Goals as goal

pub next-requires : goal.next-requires
next-requires g c = let mid = c.open.ensures.kept c.requires.kept.0 c.requires.kept.1 in record { made = mid.made; shown = (mid.rest, mid.opened) }

pub returns-clause-some : goal.returns-clause-some
returns-clause-some g c ps was =
    let mid = c.open.ensures.kept ps was in
    (receives c.args.stacks.now c.open.new.self ps mid c.next.new.holder c.next.new.chain c.next.ensures.same (c.next.ensures.rest mid.rest mid.opened) c.next.result
    (c.next.ensures.answer mid.rest mid.opened) (c.next.ensures.found mid.rest mid.opened)).0

pub returns-clause-none : goal.returns-clause-none
returns-clause-none g c ps was =
    let mid = c.open.ensures.kept ps was in
    (receives c.args.stacks.now c.open.new.self ps mid c.next.new.holder c.next.new.chain c.next.ensures.same (c.next.ensures.rest mid.rest mid.opened) c.next.result
    (c.next.ensures.answer mid.rest mid.opened) (c.next.ensures.found mid.rest mid.opened)).1

pub returns-clause-kept : goal.returns-clause-kept
returns-clause-kept g c =
    let ps = c.requires.kept.0 in
    let mid = c.open.ensures.kept ps c.requires.kept.1 in
    received c.args.stacks.now c.open.new.self ps mid c.next.new.holder c.next.new.chain c.next.ensures.same (c.next.ensures.rest mid.rest mid.opened) c.next.result
    (receives c.args.stacks.now c.open.new.self ps mid c.next.new.holder c.next.new.chain c.next.ensures.same (c.next.ensures.rest mid.rest mid.opened) c.next.result
    (c.next.ensures.answer mid.rest mid.opened) (c.next.ensures.found mid.rest mid.opened))
