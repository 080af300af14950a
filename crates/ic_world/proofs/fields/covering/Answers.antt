use Rattle.std.proofs.Common.{◌∙◌, ap, arith}
use Rattle.ic_any_collection.specs.AnyTables.{table_in}
use Rattle.ic_any_collection.specs.Kinds.{kind_with}
use Rattle.ic_world.proofs.Growth.{nothing_linked}
use Rattle.ic_world.proofs.fields.covering.Goals as goal

pub returns-in-Ok : goal.returns-in-Ok
returns-in-Ok g c =
    let new = c.new-links.ensures in
    let e = c.cover.ensures in
    record { kind_is = ap kind_with e.identity ∙ new.kind; covers = omega (arith, c.in-Ok.ensures.covers); free = nothing_linked c.new-links.result (table_in c.cover.new.self) new.covers e.stays }
