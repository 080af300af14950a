use Rattle.std.proofs.Common.{None}
use Rattle.ic_link_ops.specs.Positions.{site}
use Rattle.collections_tests.proofs.laws.write_front.Goals as goal

pub contains-is_member-requires : goal.contains-is_member-requires
contains-is_member-requires g c =
    let s = c.requires.shown in
    let old = site c.args.links.now c.args.list.now None in
    let pushed = site c.push_front.new.links c.push_front.new.self None in
    let new = site c.pop_front.new.links c.pop_front.new.self None in
    let law = c.push_then_pop_front.ensures old pushed new c.reference-object.result c.pop_front.result s.0 s.1 in
    let push = c.in-Ok.ensures in
    let pop = c.pop_front.ensures in
    let given_back = law (record { inserted = push.inserted; acquired = push.acquired; frame = push.frame })
    (record { answer = pop.answer; removed = pop.removed; released = pop.released; frame = pop.frame }) in
    record { shown = (s.0, given_back.sequence) }
