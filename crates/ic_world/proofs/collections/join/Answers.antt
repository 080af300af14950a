use Rattle.std.proofs.Common.{◌∙◌, sym}
use Rattle.ic_world.proofs.Readings.{left_back, set_back}
use Rattle.ic_world.proofs.CanSplice.{taken_held, joined_by}
use Rattle.ic_world.proofs.collections.join.Goals as goal

pub put_beside-requires-clause-given : goal.put_beside-requires-clause-given
put_beside-requires-clause-given g c =
    let e = c.take-taken.ensures in
    taken_held c.args.tables.now.items c.requires c.in-Some.field (sym c.in-Some.is ∙ c.field_of.ensures) c.take-taken.new.self c.members_mut.result.now c.members_mut.ensures.value c.members_mut-2.result.now c.members_mut-2.ensures.value
    c.index_mut.result.now c.index_mut.ensures.value c.take-taken.result e.whole

pub returns-clause-joined : goal.returns-clause-joined
returns-clause-joined g c =
    let tables = c.args.tables.now.items in
    let e = c.take-taken.ensures in
    joined_by tables c.requires c.in-Some.field (sym c.in-Some.is ∙ c.field_of.ensures) c.take-taken.new.self c.members_mut.result.now c.members_mut.ensures.value c.members_mut-2.result.now c.members_mut-2.ensures.value c.index_mut.result.now c.index_mut.ensures.value
    c.take-taken.result e.whole (record { kept = e.empty; alike = e.empty_alike; null = e.empty_null }) (record c.index_mut.result.now { links = c.put_beside.new.links }) c.put_beside.new.list c.put_beside.ensures

pub returns-clause-left : goal.returns-clause-left
returns-clause-left g c =
    let now = c.index_mut.result.now in
    let tables = c.args.tables.now.items in
    left_back tables c.in-Some.field now c.put_beside.new.links (set_back tables c.in-Some.field now c.index_mut.ensures.value)
