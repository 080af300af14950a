use Rattle.ic_hash_table.proofs.Callers.{held_represented}
use Rattle.ic_hash_table.proofs.table.HashTable.remove_by_keyed.Goals as goal

-- the removal keeps the extent of the table of links, and the stored values are a part of the extent
pub returns-clause-values : goal.returns-clause-values
returns-clause-values g c =
    let q = c.requires.held in g.met.L.LinkValues.values_stay _ _ (c.remove_at.ensures.kept.chains.frame q.0 (held_represented q.1)).extent
