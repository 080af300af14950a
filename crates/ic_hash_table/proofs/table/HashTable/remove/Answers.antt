use Rattle.std.proofs.Common.{◌∷◌, ◌++◌, subst}
use Rattle.ic_link_ops.specs.Sequences.{IsAbsent}
use Rattle.ic_link_ops.proofs.SequenceLemmas.{split_member}
use Rattle.ic_hash_table.proofs.table.HashTable.remove.Goals as goal

pub returns-in_default-clause-removed : goal.returns-in_default-clause-removed
returns-in_default-clause-removed g c front back held =
    absurd (split_member front c.args.object.now back
    (subst (λ p. IsAbsent p (front ++ c.args.object.now ∷ back)) c.place.ensures (c.in_default.ensures.absent (front ++ c.args.object.now ∷ back) held)))
