use Rattle.ic_raw_augmented.proofs.Writes.{other_sums}
use Rattle.ic_raw_augmented.proofs.sums.set_sum.Goals as goal

pub returns-clause-others : goal.returns-clause-others
returns-clause-others c q apart = other_sums c.args.sums.now c.args.place _ c.index.result c.index.ensures.value q apart
