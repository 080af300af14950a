use Rattle.ic_container.proofs.ListedLemmas.{last_there, listed_last}
use Rattle.ic_indexed.proofs.indexed.Indexed.last.Goals as goal

pub returns-clause-last : goal.returns-clause-last
returns-clause-last g c = rw (← c.self.view_is, c.last.ensures) (last_there c.self.invariant.listed)

pub returns-clause-placed : goal.returns-clause-placed
returns-clause-placed g c = rw (← c.self.view_is, c.last.ensures) (listed_last c.self.invariant.listed)
