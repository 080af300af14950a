use Rattle.ic_container.proofs.ListedEnds.{first_there}
use Rattle.ic_container.proofs.ListedLemmas.{listed_first}
use Rattle.ic_indexed.proofs.indexed.Indexed.first.Goals as goal

pub returns-clause-first : goal.returns-clause-first
returns-clause-first g c = rw (← c.self.view_is, c.first.ensures) (first_there c.self.invariant.listed)

pub returns-clause-placed : goal.returns-clause-placed
returns-clause-placed g c = rw (← c.self.view_is, c.first.ensures) (listed_first c.self.invariant.listed)
