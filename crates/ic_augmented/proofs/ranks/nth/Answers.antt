use Rattle.ic_augmented.proofs.CountLemmas.{nth_is}
use Rattle.ic_augmented.proofs.ranks.nth.Goals as goal

pub returns : goal.returns
returns g c s h = nth_is g.N.NodeStore.node _ _ _ s h c.root.result c.args.position c.nth_below.result c.root.ensures c.nth_below.ensures
