use Rattle.std.proofs.Common.{◌∙◌}
use Rattle.ic_container.proofs.ListedLemmas.{listed_first}
use Rattle.ic_container.proofs.listed.Listed.first.Goals as goal

pub returns-clause-first : goal.returns-clause-first
returns-clause-first g c = rw (← c.self.view_is) (c.first.ensures ∙ (c.self.invariant.holds.shown 0).head)

pub returns-clause-placed : goal.returns-clause-placed
returns-clause-placed g c = rw (← c.self.view_is, c.first.ensures) (listed_first c.self.invariant)
