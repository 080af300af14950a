use Rattle.std.proofs.Common.{◌∙◌}
use Rattle.ic_container.proofs.ListedEnds.{all_walked}
use Rattle.ic_indexed.proofs.indexed.Indexed.iter.Goals as goal

pub iter-requires : goal.iter-requires
iter-requires g c = record { placed = all_walked c.self.invariant.listed }

pub returns : goal.returns
returns g c = rw (← c.self.view_is) (c.new.ensures ∙ c.iter.ensures.walks _ (c.self.invariant.listed.holds.shown 0))
