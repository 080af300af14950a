use Rattle.std.proofs.Common.{◌∙◌}
use Rattle.ic_container.proofs.ListedEnds.{listed_count}
use Rattle.ic_indexed.proofs.indexed.Indexed.len.Goals as goal

pub returns : goal.returns
returns g c = rw (← c.self.view_is) (c.len.ensures ∙ listed_count c.self.invariant.listed)
