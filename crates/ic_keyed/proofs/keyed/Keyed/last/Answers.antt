use Rattle.std.proofs.Common.{sym, ◌∙◌}
use Rattle.ic_indexed.specs.Indexed.{values_of}
use Rattle.ic_container.proofs.ListedEnds.{no_last}
use Rattle.ic_keyed.proofs.KeyLemmas.{last_cut}
use Rattle.ic_keyed.proofs.keyed.Keyed.last.Goals as goal

pub returns-in_err-oldest : goal.returns-in_err-oldest
returns-in_err-oldest g c = rw (c.from_residual.ensures, ← c.self.view_is) (no_last (values_of c.self.inside.store) (sym c.in_err-oldest.ensures.last))

pub returns : goal.returns
returns g c = rw (← c.self.view_is) (last_cut (values_of c.self.inside.store) (sym c.in_ok-oldest.ensures.last ∙ sym c.at.ensures))
