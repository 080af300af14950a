use Rattle.std.proofs.Common.{sym, ap, ◌∙◌}
use Rattle.ic_any_collection.specs.Gaps.{can_remove}
use Rattle.ic_world.specs.declared.calls.collection_call.Call.TheVariants as one
use Rattle.ic_world.proofs.Seeking.{ran_not}
use Rattle.ic_world.proofs.Taken.{taken_out}
use Rattle.ic_world.proofs.calls.gaps.TakeCollectionCall.run.Goals as goal

pub returns-then-not-can_remove : goal.returns-then-not-can_remove
returns-then-not-can_remove g c =
    let at = c.args.self.now.0 in
    ran_not {K = g.row.A-Key.Denot} (one.Take at) c.requires.held (ap (can_remove at) (sym c.kind.ensures) ∙ sym c.can_remove.ensures ∙ c.if-not-can_remove.true)

pub remove-requires-clause-can : goal.remove-requires-clause-can
remove-requires-clause-can g c = ap (can_remove c.args.self.now.0) (sym c.kind.ensures) ∙ sym c.can_remove.ensures ∙ c.if-not-can_remove.false

pub returns : goal.returns
returns g c =
    let at = c.args.self.now.0 in
    taken_out g.row.A-Key.Denot c.args.links.now c.remove.new.links at c.remove.result
    (ap (can_remove at) (sym c.kind.ensures) ∙ sym c.can_remove.ensures ∙ c.if-not-can_remove.false) c.remove.ensures
