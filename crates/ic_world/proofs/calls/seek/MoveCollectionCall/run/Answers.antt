use Rattle.std.proofs.Common.{refl, sym, ap, ◌∙◌}
use Rattle.ic_any_collection.specs.AnyCollection.{has_before}
use Rattle.ic_world.specs.declared.calls.collection_call.Call.TheVariants as one
use Rattle.ic_world.specs.declared.calls.collection_call.Neighbor.TheVariants.{Prev}
use Rattle.ic_world.proofs.Seeking.{ran_not}
use Rattle.ic_world.proofs.Taken.{moved_next, moved_prev}
use Rattle.ic_world.proofs.calls.seek.MoveCollectionCall.run.Goals as goal

pub returns-in-Next : goal.returns-in-Next
returns-in-Next g c =
    let e = c.move_next.ensures in
    rw c.in-Next.is (record { tested = refl; turned = moved_next c.args.links.now c.move_next.result e.moved e.answer; unchanged = tt })

pub returns-then-not-has_before : goal.returns-then-not-has_before
returns-then-not-has_before g c =
    rw c.in-Prev.is (ran_not {K = g.row.A-Key.Denot} (one.Move Prev) c.requires.held (ap has_before (sym c.kind.ensures) ∙ sym c.has_before.ensures ∙ c.if-not-has_before.true))

pub move_prev-requires-clause-can : goal.move_prev-requires-clause-can
move_prev-requires-clause-can g c = ap has_before (sym c.kind.ensures) ∙ sym c.has_before.ensures ∙ c.if-not-has_before.false

pub returns-else-not-has_before : goal.returns-else-not-has_before
returns-else-not-has_before g c =
    let e = c.move_prev.ensures in
    rw c.in-Prev.is
    (moved_prev c.args.links.now c.move_prev.result g.row.A-Key.Denot (ap has_before (sym c.kind.ensures) ∙ sym c.has_before.ensures ∙ c.if-not-has_before.false) e.moved e.answer)
