use Rattle.std.proofs.Common.{sym, ◌∙◌}
use Rattle.ic_indexed.specs.Indexed.{values_of}
use Rattle.ic_container.proofs.ListedEnds.{no_first}
use Rattle.ic_keyed.proofs.KeyLemmas.{first_cut}
use Rattle.ic_keyed.proofs.keyed.Keyed.first.Goals as goal

pub returns-in_err-newest : goal.returns-in_err-newest
returns-in_err-newest g c = rw (c.from_residual.ensures, ← c.self.view_is) (no_first (values_of c.self.inside.store) (sym c.in_err-newest.ensures.first))

pub returns : goal.returns
returns g c = rw (← c.self.view_is) (first_cut (values_of c.self.inside.store) (sym c.in_ok-newest.ensures.first ∙ sym c.at.ensures))
