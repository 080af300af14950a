use Rattle.std.proofs.Common.{ap, ◌∙◌, arith}
use Rattle.ic_link_ops.specs.Sequences.{last}
use Rattle.ic_link_ops.proofs.Walks.{few_places}
use Rattle.ic_list_algorithms.proofs.WalkLemmas.{take_beyond}
use Rattle.ic_list_algorithms.proofs.whole.last_walking.Goals as goal

pub returns : goal.returns
returns g c s shown = (c.gap_at-last.ensures s shown).0 ∙ ap last (take_beyond s 18446744073709551615 (omega (arith, few_places s shown.distinct)))
