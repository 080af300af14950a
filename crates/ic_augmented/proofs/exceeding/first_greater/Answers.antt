use Rattle.ic_augmented.proofs.OverlapLemmas.{first_is, none_unsorted}
use Rattle.ic_augmented.proofs.exceeding.first_greater.Goals as goal

pub returns : goal.returns
returns g c s h =
    first_is (λ q. 0) c.args.summed.now.summaries.cells.items c.args.bound 1 g.N.NodeStore.node (g.N.NodeStore.table c.args.summed.now.links) s h (none_unsorted s)
    c.root.result c.first_greater_below.result c.root.ensures (λ x y k i z sorted l. c.first_greater_below.ensures x y k i z l)
