use Rattle.std.proofs.Common.{◌∙◌}
use Rattle.ic_augmented.proofs.CountLemmas.{length_is}
use Rattle.ic_augmented.proofs.ranks.len.Goals as goal

pub returns : goal.returns
returns g c s h = c.total.ensures ∙ length_is g.N.NodeStore.node _ _ _ s h c.root.result c.root.ensures
