use Rattle.std.proofs.Common.{◌≡◌, not, ap, refl}
use Rattle.std.proofs.lemmas.Fn.{Called-at_two}
use Rattle.std.proofs.slice.Orders.{answers_next}
use Rattle.ic_list_algorithms.proofs.keeps.DiffersKeeps.keeps.Goals as goal

pub returns-clause-answer : goal.returns-clause-answer
returns-clause-answer g c = λ test h.
    let e = answers_next g.F.FnMut (λ a r. r ≡ h.0 a.0.now a.1.0.now) _ _ _ _ c.same.ensures h.1 in ((h.0, e.1, h.2), rw h.2 (ap not e.0))

pub returns-clause-asked : goal.returns-clause-asked
returns-clause-asked g c = (c.same.result, Called-at_two g.F.FnMut c.same.ensures refl, refl)
