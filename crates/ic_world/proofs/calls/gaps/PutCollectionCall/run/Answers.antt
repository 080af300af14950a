use Rattle.std.proofs.Common.{sym, ap, ◌∙◌}
use Rattle.ic_any_collection.specs.Gaps.{can_insert}
use Rattle.ic_world.specs.declared.calls.collection_call.Call.TheVariants as one
use Rattle.ic_world.proofs.Inserted.{put_in, put_not}
use Rattle.ic_world.proofs.Seeking.{ran_not}
use Rattle.ic_world.proofs.calls.gaps.PutCollectionCall.run.Goals as goal

pub returns-then-not-can_insert : goal.returns-then-not-can_insert
returns-then-not-can_insert g c =
    let at = c.args.self.now.0 in
    ran_not {K = g.row.A-Key.Denot} (one.Put at c.args.self.now.1) c.requires.held (ap (can_insert at) (sym c.kind.ensures) ∙ sym c.can_insert.ensures ∙ c.if-not-can_insert.true)

pub insert-requires-clause-can : goal.insert-requires-clause-can
insert-requires-clause-can g c = ap (can_insert c.args.self.now.0) (sym c.kind.ensures) ∙ sym c.can_insert.ensures ∙ c.if-not-can_insert.false

pub returns-then-not-insert : goal.returns-then-not-insert
returns-then-not-insert g c =
    let at = c.args.self.now.0 in
    let can = ap (can_insert at) (sym c.kind.ensures) ∙ sym c.can_insert.ensures ∙ c.if-not-can_insert.false in
    put_not g.row.A-Key.Denot c.args.links.now c.insert.new.links at c.args.self.now.1 c.args.members.now c.insert.new.self can c.if-not-insert.ensures.refused

pub returns : goal.returns
returns g c =
    let at = c.args.self.now.0 in
    let can = ap (can_insert at) (sym c.kind.ensures) ∙ sym c.can_insert.ensures ∙ c.if-not-can_insert.false in
    put_in g.row.A-Key.Denot c.args.links.now c.insert.new.links at c.args.self.now.1 c.args.members.now c.insert.new.self can c.if-not-insert.ensures.inserted
