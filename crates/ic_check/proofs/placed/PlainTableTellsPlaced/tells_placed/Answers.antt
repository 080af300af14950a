use Rattle.std.proofs.Common.{sym, ◌∙◌}
use Rattle.std.proofs.lemmas.List.{length-map}
use Rattle.ic_link_ops.specs.Links.{value_of}
use Rattle.ic_link_ops.specs.Prelude.{entries, values_beside, nameable}
use Rattle.ic_check.proofs.HashTables.{placed_exactly}
use Rattle.ic_check.proofs.placed.PlainTableTellsPlaced.tells_placed.Goals as goal

pub returns : goal.returns
returns g c =
    let es = nameable g.W.Words.width (entries c.args.self.now) in
    placed_exactly (values_beside es) c.args.place c.index.ensures.value (c.covers.ensures ∙ sym (length-map es value_of))
