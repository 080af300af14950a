use Rattle.ic_raw.proofs.Trees.{root_stands}
use Rattle.ic_raw.proofs.search.is_searchable.Goals as goal

pub returns-clause-shown : goal.returns-clause-shown
returns-clause-shown c s shown enough = c.stands.ensures.1 (rw c.root.ensures (root_stands shown))
