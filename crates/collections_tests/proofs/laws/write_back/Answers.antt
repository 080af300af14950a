use Rattle.std.proofs.Common.{None}
use Rattle.ic_link_ops.specs.Positions.{site}
use Rattle.collections_tests.proofs.laws.write_back.Goals as goal

pub write_ends-requires-clause-stands : goal.write_ends-requires-clause-stands
write_ends-requires-clause-stands g c =
    let s = c.requires.shown in
    let old = site c.args.links.now c.args.list.now None in
    let pushed = site c.push_back.new.links c.push_back.new.self None in
    let new = site c.pop_back.new.links c.pop_back.new.self None in
    let law = c.push_then_pop.ensures old pushed new c.reference.result c.pop_back.result s.0 s.1 in
    let push = c.in-Ok.ensures in
    let pop = c.pop_back.ensures in
    let given_back = law (record { inserted = push.inserted; acquired = push.acquired; frame = push.frame })
    (record { answer = pop.answer; removed = pop.removed; released = pop.released; frame = pop.frame }) in
    c.cursor.ensures.kept (s.0, given_back.sequence)
