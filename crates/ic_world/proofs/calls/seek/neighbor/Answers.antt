use Rattle.std.proofs.Common.{◌∙◌, sym}
use Rattle.ic_any_collection.specs.AnyTables.{table_in}
use Rattle.ic_any_collection.proofs.AllKinds.{distinct}
use Rattle.ic_world.proofs.Neighbors.{before_gap, after_gap}
use Rattle.ic_world.proofs.calls.seek.neighbor.Goals as goal

pub returns-in-Prev : goal.returns-in-Prev
returns-in-Prev g c =
    let e = c.requires.member in
    rw c.in-Prev.is (e.2.0 ∙ sym (before_gap e.0 e.1 e.2.1 (distinct (table_in c.args.links.now) c.args.members.now _ c.requires.held.shown)))

pub returns-in-Next : goal.returns-in-Next
returns-in-Next g c =
    let e = c.requires.member in
    rw c.in-Next.is (c.after.ensures e.0 e.1 e.2.0 e.2.1 ∙ sym (after_gap e.0 e.1 e.2.1 (distinct (table_in c.args.links.now) c.args.members.now _ c.requires.held.shown)))
