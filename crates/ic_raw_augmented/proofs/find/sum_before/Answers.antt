use Rattle.std.proofs.Common.{subst}
use Rattle.ic_raw.specs.Tree.{lent_table}
use Rattle.ic_raw_augmented.proofs.Searches.{SumsAbove, summed_before}
use Rattle.ic_raw_augmented.proofs.find.sum_before.Goals as goal

pub returns-clause-made : goal.returns-clause-made
returns-clause-made c root front back shown right =
    let v = lent_table c.args.links.now in
    summed_before c.args.kind v c.args.sums.now front c.args.member back shown right c.left.result c.left.ensures c.sum_above.result
    (subst (λ d. SumsAbove c.args.kind v c.args.sums.now c.args.member d 67 c.sum_above.result) c.sum_below-done.ensures c.sum_above.ensures.made)
