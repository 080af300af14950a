use Rattle.std.proofs.Common.{◌∷◌, ◌++◌, subst}
use Rattle.ic_link_ops.specs.Sequences.{IsAbsent}
use Rattle.ic_link_ops.proofs.SequenceLemmas.{split_member}
use Rattle.ic_hash_table.proofs.Callers.{held_represented}
use Rattle.ic_hash_table.proofs.table.HashTable.remove_keyed.Goals as goal

pub returns-in_default-clause-removed : goal.returns-in_default-clause-removed
returns-in_default-clause-removed g c front back held =
    absurd (split_member front c.args.object.now back
    (subst (λ p. IsAbsent p (front ++ c.args.object.now ∷ back)) c.place.ensures (c.in_default.ensures.absent (front ++ c.args.object.now ∷ back) held)))

-- the removal keeps the extent of the table of links, and the stored values are a part of the extent
pub returns-clause-values : goal.returns-clause-values
returns-clause-values g c =
    let q = c.requires.held in g.met.L.LinkValues.values_stay _ _ (c.remove_at.ensures.kept.chains.frame q.0 (held_represented q.1)).extent
