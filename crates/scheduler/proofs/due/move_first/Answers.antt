use Rattle.std.proofs.Common.{sym, ap, ◌∙◌, arith, option_copied}
use Rattle.ic_unsafe_ref.specs.Objects.{object_at}
use Rattle.ic_link_ops.proofs.PlacedValues.{placed_first}
use Rattle.ic_link_ops.proofs.TwoFields.{unlinked_second}
use Rattle.scheduler.specs.Timers.{due}
use Rattle.scheduler.specs.Kept.{deadline_of}
use Rattle.scheduler.proofs.Keeping.{few_wait, nothing_due, first_due, kept_moved, moves, sorted_values}
use Rattle.scheduler.proofs.due.move_first.Goals as goal

pub take_due_at-requires : goal.take_due_at-requires
take_due_at-requires g c = record { front = record { queue = sorted_values c.args.cursor.now.links.now c.requires.kept.sorted; first_is = c.requires.front } }

pub returns-in_default-clause-few : goal.returns-in_default-clause-few
returns-in_default-clause-few g c = few_wait c.requires.kept

pub returns-in_default-clause-none_due : goal.returns-in_default-clause-none_due
returns-in_default-clause-none_due g c = nothing_due c.requires.kept c.args.now c.in_default.ensures.none_due

pub enqueue-requires : goal.enqueue-requires
enqueue-requires g c =
    let k = c.requires.kept in
    let placed = placed_first c.args.objects.now c.in-Some.object k.sorted.members (first_due k c.args.now c.in-Some.ensures.due).0 k.sorted.stand.placed in
    let queue = c.unwrap.result.now.queue in
    (omega arith, ((k.room c.in-Some.object placed).0, (unlinked_second k.once c.in-Some.object c.in-Some.ensures.released.was, (k.numbered.members queue, (k.numbered.each queue).shown))))

pub returns-clause-kept : goal.returns-clause-kept
returns-clause-kept g c =
    let k = c.requires.kept in
    let e = c.in-Some.ensures in
    let n = c.enqueue.ensures in
    let there = ap (object_at c.args.objects.now) (sym c.place.ensures) ∙ sym c.get.ensures ∙ ap option_copied c.unwrap.ensures in
    kept_moved k (first_due k c.args.now e.due).0 there c.take_due_at.new.cursor.links.now _ c.enqueue.new.links c.enqueue.new.queues (e.taken k.sorted.members k.sorted.shown) e.released n.pushed n.others n.linked n.frame

pub returns-clause-few : goal.returns-clause-few
returns-clause-few g c = few_wait c.requires.kept

pub returns-clause-moved : goal.returns-clause-moved
returns-clause-moved g c =
    let k = c.requires.kept in
    let e = c.in-Some.ensures in
    let n = c.enqueue.ensures in
    let there = ap (object_at c.args.objects.now) (sym c.place.ensures) ∙ sym c.get.ensures ∙ ap option_copied c.unwrap.ensures in
    let first = first_due k c.args.now e.due in
    moves k first.0 there c.take_due_at.new.cursor.links.now _ c.enqueue.new.links c.enqueue.new.queues (e.taken k.sorted.members k.sorted.shown) e.released n.pushed n.others n.linked n.frame
    c.args.now (ap (due deadline_of c.args.now) (sym there) ∙ first.1)
