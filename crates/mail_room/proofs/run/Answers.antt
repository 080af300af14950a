use Rattle.std.proofs.Common.{◌≡◌, ◌*◌, ◌∙◌, ap}
use Rattle.mail_room.specs.Tally.{in_order_of}
use Rattle.mail_room.proofs.TallyLemmas.{delivered_in_order, delivered_whole}
use Rattle.mail_room.proofs.run.Goals as goal

pub prove-unreachable-requires : goal.prove-unreachable-requires
prove-unreachable-requires g c =
    let all : c.len.result ≡ c.args.asked.senders * c.args.asked.places =
    c.len.ensures ∙ (c.in-Ok.came.ok.0 ∙ delivered_whole c.args.asked.senders c.args.asked.places c.in-Ok.came.items c.in-Ok.ensures.delivered) in
    c.if-prove.true all

pub prove-unreachable-requires-2 : goal.prove-unreachable-requires-2
prove-unreachable-requires-2 g c =
    let all : c.in_ok-in_order.in_order ≡ c.args.asked.senders * c.args.asked.places =
    c.in_ok-in_order.ensures.counted
    ∙ (ap (in_order_of c.args.asked.senders c.args.asked.places) c.deref.ensures.value ∙ delivered_in_order c.args.asked.senders c.args.asked.places c.in-Ok.came.items c.in-Ok.ensures.delivered) in
    c.if-prove-2.true all
